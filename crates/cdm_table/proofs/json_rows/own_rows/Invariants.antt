use Rattle.std.proofs.Common.{All}
use Rattle.cdm_table.specs.inner.OwnRows.{IsOwnRow, json_row}
use Rattle.cdm_table.proofs.json_rows.own_rows.Given as goal

abbrev pub invariant-loop-row : goal.invariant-loop-row
invariant-loop-row l = All (IsOwnRow (json_row l.day)) l.own.items
