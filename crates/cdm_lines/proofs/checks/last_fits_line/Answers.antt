use Rattle.cdm_lines.proofs.CheckLemmas.{last_fits}
use Rattle.cdm_lines.proofs.checks.last_fits_line.Goals as goal

pub returns : goal.returns
returns c = λ records refused. last_fits records refused
