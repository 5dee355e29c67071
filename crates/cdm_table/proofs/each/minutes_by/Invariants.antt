use Rattle.cdm_table.proofs.Words.{◌≡◌, ◌-◌, flat_map}
use Rattle.std.specs.List.{range_with_len}
use Rattle.cdm_table.specs.Steps.{step_at}
use Rattle.cdm_table.proofs.each.minutes_by.Given as goal

abbrev pub invariant-loop-minute : goal.invariant-loop-minute
invariant-loop-minute l = l.minutes.items ≡ flat_map (step_at l.fn.step l.fn.from) (range_with_len l.fn.from (l.minute - l.fn.from))
