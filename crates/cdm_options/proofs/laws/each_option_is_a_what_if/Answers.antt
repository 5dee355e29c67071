use Rattle.cdm_options.proofs.LawLemmas.{what_ifs}
use Rattle.cdm_options.proofs.laws.each_option_is_a_what_if.Goals as goal

pub returns : goal.returns
returns c = what_ifs
