use Rattle.cdm_lines.proofs.TableLemmas.{are_plans}
use Rattle.cdm_lines.proofs.tables.plans_are_lines.Goals as goal

pub returns : goal.returns
returns c = λ d refused scenarios text is. are_plans d refused scenarios text is
