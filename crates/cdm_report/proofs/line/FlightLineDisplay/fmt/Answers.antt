use Rattle.std.proofs.Output.{has_written_of_eq}
use Rattle.cdm_report.{specs.Columns.flight_line, proofs.Widths.{right_number, left_text, eight_columns}}
use Rattle.cdm_report.proofs.line.FlightLineDisplay.fmt.Goals as goal

pub returns-clause-writes : goal.returns-clause-writes
unfolding flight_line
returns-clause-writes g c = λ plain ok.
    let name = left_text _ c.text-name.ensures.ascii c.text-name.ensures.short in
    let exot = right_number 4 c.slot.inside.exot in
    has_written_of_eq _ _ _ _ _ (rw (c.laid_out.ensures, c.laid_out-2.ensures, name, exot, c.text-name.ensures.value, ← c.slot.view_is)
    (eight_columns _ _ _ _ _ _ _ _)) (c.write.ensures.writes plain ok)
