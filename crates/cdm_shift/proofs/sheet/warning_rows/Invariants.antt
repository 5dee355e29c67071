use Rattle.std.proofs.Common.{◌≡◌, ◌∷◌, map, take}
use Rattle.cdm_csv.specs.Rows.{csv_text}
use Rattle.cdm_shift.specs.Sheets.{warning_columns, warning_fields}
use Rattle.cdm_shift.proofs.sheet.warning_rows.Given as goal

abbrev pub invariant-loop-warning : goal.invariant-loop-warning
invariant-loop-warning l = l.text.items ≡ csv_text (warning_columns ∷ map (warning_fields l.day) (take l.warning-index l.found))
