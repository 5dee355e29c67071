-- The indicators of a plan.
use Rattle.std.specs.Prelude.{ℕ, List, length, max, sum, fold, count_by, flat_map, map, nat_lt}
use Rattle.std.specs.List.{filter_map}
use denote.Enum.Bare.{sameb as same_variant}
use Rattle.cdm_sequence.specs.declared.rule.Rule.{Rule}
use Rattle.cdm_sequence.specs.contracts.rule.Rule.{the_type as rule_type}
use Rattle.cdm_sequence.specs.declared.slot.BlockedFlight.{BlockedFlight}
use Rattle.cdm_sequence.specs.declared.plan.Plan.{Plan}
use Rattle.cdm_sequence.specs.Words.{all_rules}
use Rattle.cdm_report.specs.declared.counts.Counts.{Counts}

-- the delays of all planned flights that get a minute
abbrev pub delays_of : Plan → List ℕ
delays_of plan = flat_map (λ runway. filter_map (λ slot. slot.delay) runway.slots) plan.runways

-- how many of the flights the rule blocks
abbrev pub blocked_by : Rule → List BlockedFlight → ℕ
blocked_by rule blocked = count_by (λ flight. same_variant rule_type flight.rule rule) blocked

-- the indicators: how many delays there are, their sum, the greatest, those of more than 15 minutes, the blocked
-- flights, and how many each rule blocks, in the order of the rules
unfoldable pub counts_of : Plan → Counts
counts_of plan = record {
  placed = length (delays_of plan);
  delay = sum (delays_of plan);
  greatest = fold max 0 (delays_of plan);
  late = count_by (λ delay. nat_lt 15 delay) (delays_of plan);
  blocked = length plan.blocked;
  by_rule = map (λ rule. blocked_by rule plan.blocked) all_rules;
}
