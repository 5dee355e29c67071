use Rattle.cdm_lines.proofs.TableLemmas.{is_sweep}
use Rattle.cdm_lines.proofs.tables.sweeps_are_lines.Goals as goal

pub returns : goal.returns
returns c = λ d scenarios minutes text is. is_sweep d scenarios minutes text is
