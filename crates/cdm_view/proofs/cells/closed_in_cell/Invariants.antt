use Rattle.std.{proofs.Common.◌≡◌, proofs.Common.◌-◌, proofs.Common.◌≤◌, specs.List.count_by, specs.List.range_with_len}
use Rattle.cdm_runway.specs.Room.{is_closed}
use Rattle.cdm_view.proofs.cells.closed_in_cell.Given as goal

-- the closed minutes so far
abbrev pub invariant-loop-number : goal.invariant-loop-number
invariant-loop-number l = (l.closed ≡ count_by (is_closed l.runway) (range_with_len l.first (l.number - l.first))) × (l.closed ≤ l.number - l.first)
