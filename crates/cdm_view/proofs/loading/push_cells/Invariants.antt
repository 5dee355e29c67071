use Rattle.std.{proofs.Common.{◌≡◌, ◌-◌, ◌++◌}, specs.{Prelude.flat_map, List.range_with_len, String.string_bytes}}
use Rattle.cdm_view.specs.Load.{cell_line}
use Rattle.cdm_view.proofs.loading.push_cells.Given as goal

abbrev pub invariant-loop-cell : goal.invariant-loop-cell
invariant-loop-cell l = string_bytes l.text ≡ string_bytes l.initial.text ++ flat_map (cell_line l.day l.runway l.slots) (range_with_len l.from (l.cell - l.from))
