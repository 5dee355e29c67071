-- Indicators that are counted one delay after another.
use Rattle.std.specs.Prelude.{ℕ, ◌+◌, List, length, map, max, nat_lt, if◌then◌else◌}
use Rattle.std.specs.List.{filter_map}
use Rattle.cdm_sequence.specs.Words.{all_rules}
use Rattle.cdm_sequence.specs.declared.slot.BlockedFlight.{BlockedFlight}
use Rattle.cdm_sequence.specs.declared.slot.Slot.{Slot}
use Rattle.cdm_report.specs.declared.counts.Counts.{Counts}
use Rattle.cdm_report.specs.Counts.{blocked_by}

-- the delays of the planned flights among the slots
abbrev pub delays_in : List Slot → List ℕ
delays_in slots = filter_map (λ slot. slot.delay) slots

-- the indicators where these flights are blocked and no other is planned
abbrev pub only_blocked : List BlockedFlight → Counts
only_blocked blocked = record {
  placed = 0;
  delay = 0;
  greatest = 0;
  late = 0;
  blocked = length blocked;
  by_rule = map (λ rule. blocked_by rule blocked) all_rules;
}

-- a delay counted in
abbrev pub with_delay : Counts → ℕ → Counts
with_delay counts delay = record counts {
  placed = counts.placed + 1;
  delay = counts.delay + delay;
  greatest = max counts.greatest delay;
  late = counts.late + (if nat_lt 15 delay then 1 else 0);
}
