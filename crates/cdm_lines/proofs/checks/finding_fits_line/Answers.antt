use Rattle.cdm_lines.proofs.CheckLemmas.{finding_fits}
use Rattle.cdm_lines.proofs.checks.finding_fits_line.Goals as goal

pub returns : goal.returns
returns c = λ path line number word sentence. finding_fits path line number word sentence
