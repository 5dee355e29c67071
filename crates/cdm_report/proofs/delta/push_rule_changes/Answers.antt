use Rattle.std.proofs.{Common.{rules, ◌≡◌, ℕ, ◌++◌, get_or, length, take, ap, sym, ◌∙◌, arith}, lemmas.Slice.Zip.{get_or-zip, length-zip}}
use Rattle.std.specs.{Prelude.{flat_map, zip}, String.string_bytes}
use Rattle.cdm_sequence.specs.{Words.all_rules, declared.rule.Rule.TheVariants.Tobt}
use Rattle.cdm_report.{specs.Delta.rule_change, proofs.Pairs.one_more_pair}
use Rattle.cdm_report.proofs.delta.push_rule_changes.Goals as goal

pub loop-place-preserved : goal.loop-place-preserved
loop-place-preserved c =
    let i = c.loop-place.place in
    let base = c.args.base.now in
    let scenario = c.args.scenario.now in
    let eight : length base ≡ 8 = search rules in
    let also : length scenario ≡ 8 = search rules in
    let pairs : length (zip base scenario) ≡ length all_rules = omega (arith, length-zip base scenario) in
    let both : ℕ × ℕ = (get_or base i 0, get_or scenario i 0) in
    c.in_ok-push_rule_change.ensures
    ∙ ap (λ rs. string_bytes c.loop-place.text ++ rule_change (get_or rs i Tobt, both)) c.all-rules.ensures
    ∙ ap (λ text. text ++ rule_change (get_or all_rules i Tobt, both)) c.loop-place.invariant
    ∙ ap (λ pair. (string_bytes c.args.text.now ++ flat_map rule_change (take i (zip all_rules (zip base scenario)))) ++ rule_change (get_or all_rules i Tobt, pair)) (sym (get_or-zip base scenario i (0, 0) (search rules) (search rules)))
    ∙ one_more_pair rule_change (string_bytes c.args.text.now) all_rules (zip base scenario) i Tobt (0, 0) pairs (search rules)
