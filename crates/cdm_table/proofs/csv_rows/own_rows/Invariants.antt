use Rattle.std.proofs.Common.{◌≡◌, [], take, All}
use Rattle.cdm_table.specs.{Rows.flights_text, inner.OwnRows.{IsOwnRow, csv_row, own_text}}
use Rattle.cdm_table.proofs.csv_rows.own_rows.Given as goal

abbrev pub invariant-loop-row : goal.invariant-loop-row
invariant-loop-row l = record {
  made : All (IsOwnRow (csv_row l.day)) l.own.items;
  text : own_text l.own.items ≡ flights_text l.day [] (take l.row-index l.row-items);
}
