use Rattle.std.proofs.Common.{◌≡◌, map, take}
use Rattle.cdm_row.specs.Columns.{value_of}
use Rattle.cdm_shift.specs.Sheets.{fields_of}
use Rattle.cdm_shift.proofs.sheet.set_values.Given as goal

abbrev pub invariant-loop-member : goal.invariant-loop-member
invariant-loop-member l = l.fields ≡ fields_of l.day (map (λ m. (m.0.now, value_of m.1)) (take l.member-index l.members))
