use Rattle.cdm_lines.proofs.OptionLemmas.{reply_fits}
use Rattle.cdm_lines.proofs.helped.options_reply_fits_line.Goals as goal

pub returns : goal.returns
returns c = λ number day o. reply_fits number day o
