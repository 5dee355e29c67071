use Rattle.cdm_json.proofs.Words.{◌≡◌, ◌∙◌, ◌++◌, ap, codes, flat_map, usual_cap, member_tokens}
use Rattle.cdm_json.{proofs.TokenLemmas.{more_parts, line_written, ok_then}, specs.Loads.{cells_members, load_members, runway_members}}
use Rattle.cdm_json.specs.Lines.{answer_line, head_members}
use Rattle.cdm_view.specs.Reasons.{slots_on}
use Rattle.cdm_json.proofs.load.line_of.Goals as goal

pub returns : goal.returns
unfolding load_members
returns c =
    let day = c.args.airport.now.day in
    let rules = c.args.runway.now in
    let plan = c.args.plan.now in
    let clock : c.plan.inside.clock ≡ plan.clock = cc in
    let runway = rw (c.day-day.ensures, clock) at c.in_ok-push_runway.ensures.tokens in
    let usual : c.usual_cap.result ≡ usual_cap c.args.airport.now rules.name = c.usual_cap.ensures ∙ ap (usual_cap c.args.airport.now) c.name-name.ensures in
    let slots : c.slots_on-slots.result.now ≡ slots_on plan rules.name = c.slots_on-slots.ensures ∙ ap (slots_on plan) c.name-name.ensures in
    let cells = c.in_ok-push_cells.ensures.tokens
    ∙ (λ i. c.push_runway.new.writer.tokens ++ flat_map member_tokens (cells_members (c.day-day.ensures i) rules (usual i) (slots i))) in
    let head = head_members c.args.number (codes "LOAD") in
    let members = load_members c.args.airport.now c.args.plan.now c.args.runway.now in
    ok_then _ (λ text. text.items ≡ answer_line c.args.number (codes "LOAD") members) c.end_line.result
    (λ text is. is (head ++ members) (line_written c.in_ok-writer.writer.tokens _ head members c.in_ok-writer.ensures.tokens (more_parts _ _ _ (runway_members day rules plan.clock) (cells_members day rules (usual_cap c.args.airport.now rules.name) (slots_on plan rules.name))
    runway cells)))
    c.end_line.ensures.line
