use Rattle.std.proofs.Common.{◌≡◌, ◌∷◌, map, take}
use Rattle.cdm_csv.specs.Rows.{csv_text}
use Rattle.cdm_shift.specs.Sheets.{costs_columns, group_fields}
use Rattle.cdm_shift.proofs.sheet.causes_sheet.Given as goal

abbrev pub invariant-loop-group : goal.invariant-loop-group
invariant-loop-group g l =
    l.text.items ≡ csv_text (costs_columns ∷ map (group_fields (g.R.Records.day l.records) l.plan l.by l.standing.items) (take l.group-index l.group-items))
