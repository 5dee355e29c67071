use Rattle.cdm_change.proofs.AcceptLemmas.{all_accepted}
use Rattle.cdm_change.proofs.FiledLemmas.{keeps_hours}
use Rattle.cdm_change.proofs.laws.all_accepted.Goals as goal

pub returns : goal.returns
returns c = λ text g h records filed same. all_accepted g h records (keeps_hours text g filed) same
