use Rattle.std.proofs.Common.{[], sym, subst}
use Rattle.cdm_check.{specs.Check.AreLinesOf, proofs.LineLemmas.no_lines}
use Rattle.cdm_check.proofs.check_run.no_lines.Goals as goal

pub returns-clause-lines : goal.returns-clause-lines
returns-clause-lines c = λ format. subst (AreLinesOf format []) (sym c.new.ensures.items) (no_lines format)
