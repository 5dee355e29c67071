use Rattle.std.{proofs.Common.{◌≡◌, ◌∙◌, ◌++◌, ◌<◌, [], ◌∷◌, codes, flat_map, length, rules, subst, sym}, specs.List.concat}
use Rattle.cdm_report.specs.{Columns.flight_line, Made.AreLines, Report.{line_end, runway_lines}}
use Rattle.cdm_report.proofs.made.lines_of_same.Goals as goal

pub returns-then-has_same_slots : goal.returns-then-has_same_slots
unfolding runway_lines
returns-then-has_same_slots c = λ day all.
    let lines = c.lines-item.result in
    let within : c.loop-lines.lines-index < length c.args.made.now = search rules in
    let made : AreLines day lines = subst (AreLines day) (sym c.lines-item.is) (all c.loop-lines.lines-index lines within) in
    let runway : lines.plan.now.runway ≡ c.args.plan.now.runway = c.has_same_slots.ensures.runway c.if-has_same_slots.true in
    let slots : lines.plan.now.slots ≡ c.args.plan.now.slots = c.has_same_slots.ensures.slots c.if-has_same_slots.true in
    c.as_str.ensures.value
    ∙ (made ∙ λ i. concat (codes "RUNWAY " ∷ runway i ∷ line_end ∷ []) ++ flat_map (λ slot. flight_line day slot ++ line_end) (slots i))
