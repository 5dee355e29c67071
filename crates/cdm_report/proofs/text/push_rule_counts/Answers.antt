use Rattle.std.{proofs.Common.{rules, ◌++◌, get_or, ap, ◌∙◌}, specs.String.string_bytes}
use Rattle.cdm_sequence.specs.{Words.all_rules, declared.rule.Rule.TheVariants.Tobt}
use Rattle.cdm_report.{specs.Report.rule_count, proofs.Pairs.one_more_pair}
use Rattle.cdm_report.proofs.text.push_rule_counts.Goals as goal

pub loop-place-preserved : goal.loop-place-preserved
loop-place-preserved c =
    let count = get_or c.args.by_rule.now c.loop-place.place 0 in
    c.in_ok-push_rule_count.ensures
    ∙ ap (λ rs. string_bytes c.loop-place.text ++ rule_count (get_or rs c.loop-place.place Tobt, count)) c.all-rules.ensures
    ∙ ap (λ text. text ++ rule_count (get_or all_rules c.loop-place.place Tobt, count)) c.loop-place.invariant
    ∙ one_more_pair rule_count (string_bytes c.args.text.now) all_rules c.args.by_rule.now c.loop-place.place Tobt 0 (search rules) (search rules)
