use Rattle.cdm_lines.proofs.CheckLemmas.{hint_fits}
use Rattle.cdm_lines.proofs.checks.hint_fits_line.Goals as goal

pub returns : goal.returns
returns c = λ path hint. hint_fits path hint
