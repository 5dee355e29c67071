-- What a scenario changes in the indicators.
use Rattle.std.specs.Prelude.{ℕ, ◌-◌, List, [], ◌++◌, ◌==◌, codes, flat_map, nat_le, zip, if◌then◌else◌}
use Rattle.std.specs.Fmt.{decimal}
use Rattle.cdm_sequence.specs.Words.{all_rules}
use Rattle.cdm_sequence.specs.declared.rule.Rule.{Rule}
use Rattle.cdm_report.specs.declared.counts.Counts.{Counts}
use Rattle.cdm_report.specs.Report.{indicators_told, line_end, rule_told}

-- by how much a number grew, with its sign
unfoldable pub change : ℕ → ℕ → List ℕ
change from to = if nat_le from to then codes "+" ++ decimal (to - from) else codes "-" ++ decimal (from - to)

-- by how much a rule's count grew, where it changed
unfoldable pub rule_change : Rule × (ℕ × ℕ) → List ℕ
rule_change (rule, (from, to)) = if from == to then [] else rule_told rule (change from to)

-- by how much each indicator grew from the base to the scenario
unfoldable pub delta_line : Counts → Counts → List ℕ
delta_line base scenario =
    indicators_told (codes "DELTA") (λ of. change (of base) (of scenario)) ++ flat_map rule_change (zip all_rules (zip base.by_rule scenario.by_rule)) ++ line_end
