use Rattle.std.proofs.Common.{◌≡◌, ◌∷◌, map, take}
use Rattle.cdm_csv.specs.Rows.{csv_text}
use Rattle.cdm_shift.specs.Sheets.{start_up_columns, start_up_fields}
use Rattle.cdm_shift.proofs.sheet.start_up_rows.Given as goal

abbrev pub invariant-loop-start_up : goal.invariant-loop-start_up
invariant-loop-start_up l = l.text.items ≡ csv_text (start_up_columns ∷ map (start_up_fields l.day) (take l.start_up-index l.found))
