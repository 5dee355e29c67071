use Rattle.cdm_runway.specs.Rules.{plain_rules}
use Rattle.cdm_runway.proofs.runway.Runway.new.Goals as goal

pub returns : goal.returns
unfolding plain_rules
returns c = rw (c.new.ensures, c.new-2.ensures, c.get.ensures.value, c.get-minutes.ensures.value, c.none.ensures)
