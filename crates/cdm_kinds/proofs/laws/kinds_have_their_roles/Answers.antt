use Rattle.cdm_kinds.proofs.KindLemmas.{their_roles}
use Rattle.cdm_kinds.proofs.laws.kinds_have_their_roles.Goals as goal

pub returns : goal.returns
returns c = their_roles
