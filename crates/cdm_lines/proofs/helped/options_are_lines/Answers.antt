use Rattle.cdm_lines.proofs.OptionLemmas.{are_options}
use Rattle.cdm_lines.proofs.helped.options_are_lines.Goals as goal

pub returns : goal.returns
returns c = λ d known role text is. are_options d known role text is
