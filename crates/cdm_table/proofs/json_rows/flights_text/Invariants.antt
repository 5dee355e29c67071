use Rattle.cdm_table.proofs.Words.{◌≡◌, ◌∷◌, All, map, take, flat_map, print, begin_array, json_tokens, row_json}
use Rattle.cdm_table.specs.inner.OwnRows.{IsOwnRow, json_row}
use Rattle.cdm_table.proofs.json_rows.flights_text.Given as goal

abbrev pub invariant-loop-place : goal.invariant-loop-place
invariant-loop-place l = record {
  text : l.text.items ≡ print (begin_array ∷ flat_map json_tokens (map (row_json l.day) (take l.place l.rows)));
  left : All (IsOwnRow (json_row l.day)) l.left;
}
