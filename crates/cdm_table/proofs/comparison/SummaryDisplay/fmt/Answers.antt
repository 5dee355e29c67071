use Rattle.std.proofs.Output.{has_written_of_eq}
use Rattle.cdm_report.proofs.Widths.{right_number}
use Rattle.cdm_table.{specs.Comparison.summary_text, proofs.NameColumn.six_columns}
use Rattle.cdm_table.proofs.comparison.SummaryDisplay.fmt.Goals as goal

pub returns-in-Planned-clause-writes : goal.returns-in-Planned-clause-writes
unfolding summary_text
returns-in-Planned-clause-writes g c = λ plain ok.
    let counts = c.in-Planned.counts in
    has_written_of_eq _ _ _ _ _
    (rw (c.laid_out.ensures, c.laid_out-in-Planned.ensures, c.laid_out-in-Planned-2.ensures, c.laid_out-in-Planned-3.ensures)
    (rw (c.laid_out-in-Planned-4.ensures, c.laid_out-in-Planned-5.ensures, right_number 6 counts.placed, right_number 6 counts.delay)
    (rw (right_number 5 counts.greatest, right_number 5 counts.late, right_number 7 counts.blocked, right_number 6 c.in-Planned.moved)
    (rw c.in-Planned.is (six_columns _ _ _ _ _ _))))) (c.write.ensures.writes plain ok)
