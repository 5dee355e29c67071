use Rattle.cdm_lines.proofs.TableLemmas.{is_comparison}
use Rattle.cdm_lines.proofs.tables.comparisons_are_lines.Goals as goal

pub returns : goal.returns
returns c = λ d scenarios asked text is. is_comparison d scenarios asked text is
