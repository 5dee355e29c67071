use Rattle.std.{proofs.Common.{◌≡◌, ◌-◌, ◌++◌}, specs.{Prelude.flat_map, List.range_with_len}}
use Rattle.cdm_shift.specs.Sheets.{cell_row}
use Rattle.cdm_shift.proofs.load_sheet.push_cells.Given as goal

abbrev pub invariant-loop-cell : goal.invariant-loop-cell
invariant-loop-cell l = l.text.items ≡ l.initial.text.items ++ flat_map (cell_row l.day l.runway l.slots) (range_with_len l.from (l.cell - l.from))
