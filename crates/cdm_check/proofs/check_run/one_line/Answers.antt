use Rattle.cdm_check.proofs.LineLemmas.{one_line}
use Rattle.cdm_check.proofs.check_run.one_line.Goals as goal

pub returns-clause-lines : goal.returns-clause-lines
returns-clause-lines c = one_line c.args.format _ _ c.in_ok-lines.ensures
