use Rattle.std.proofs.Common.{◌≡◌, take}
use Rattle.cdm_row.{specs.Changed.changed_rows, proofs.PassedLemmas.StillHas}
use Rattle.cdm_row.proofs.rows.Rows.changed_since.Given as goal

-- the changed Rows so far, and what is left of those before
abbrev pub invariant-loop-row : goal.invariant-loop-row
invariant-loop-row l =
    (l.changed.items ≡ changed_rows l.before (take l.row-index l.row-items)) × StillHas l.before l.left l.row-items l.row-index
