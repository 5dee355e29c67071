use Rattle.std.{proofs.Common.{◌≡◌, filter}, specs.Prelude.flat_map, specs.List.range_with_len}
use Rattle.cdm_shift.specs.StartUps.{starts_at}
use Rattle.cdm_shift.proofs.start_ups.starting.Given as goal

abbrev pub invariant-loop-number : goal.invariant-loop-number
invariant-loop-number l = l.found.items ≡ flat_map (λ m. filter (starts_at m) l.rows) (range_with_len 0 l.number)
