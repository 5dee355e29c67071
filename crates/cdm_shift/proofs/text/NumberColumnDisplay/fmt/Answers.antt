use Rattle.std.{proofs.Common.{◌++◌, ap}, proofs.Output.has_written_of_eq, specs.Prelude.codes}
use Rattle.cdm_report.proofs.Widths.{right_number}
use Rattle.cdm_shift.proofs.text.NumberColumnDisplay.fmt.Goals as goal

pub returns-clause-writes : goal.returns-clause-writes
returns-clause-writes g c = λ plain ok.
    has_written_of_eq _ _ _ _ _ (rw c.laid_out.ensures (ap (λ t. codes " " ++ t) (right_number 7 c.args.self.now.0))) (c.write.ensures.writes plain ok)
