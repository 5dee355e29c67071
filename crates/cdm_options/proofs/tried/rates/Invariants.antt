use Rattle.std.{proofs.Common.◌≡◌, specs.Prelude.flat_map, specs.List.range_with_len}
use Rattle.cdm_options.specs.Tried.{raised}
use Rattle.cdm_options.proofs.tried.rates.Given as goal

abbrev pub invariant-loop-cell : goal.invariant-loop-cell
invariant-loop-cell l = l.found.items ≡ flat_map (raised l.runway l.runs) (range_with_len 0 l.cell)
