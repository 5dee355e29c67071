use Rattle.std.proofs.Common.{◌≡◌, take, All}
use Rattle.cdm_table.specs.{Rows.flights_text, inner.OwnRows.{IsOwnRow, csv_row}}
use Rattle.cdm_table.proofs.csv_rows.flight_rows.Given as goal

abbrev pub invariant-loop-row : goal.invariant-loop-row
invariant-loop-row l = record {
  text : l.text.items ≡ flights_text l.sheet.day l.sheet.scenario.now (take l.row-index l.row-items);
  left : All (IsOwnRow (csv_row l.sheet.day)) l.left;
}
