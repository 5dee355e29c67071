use Rattle.std.{proofs.Common.{◌≡◌, ◌++◌, filter, map}, specs.List.range_with_len}
use Rattle.cdm_shift.specs.Warnings.{full_cell, is_full}
use Rattle.cdm_shift.proofs.warnings.push_cells.Given as goal

abbrev pub invariant-loop-cell : goal.invariant-loop-cell
invariant-loop-cell l =
    l.found.items ≡ l.initial.found.items ++ map (full_cell l.runway l.slots) (filter (is_full l.runway l.slots l.fn.now) (range_with_len 0 l.cell))
