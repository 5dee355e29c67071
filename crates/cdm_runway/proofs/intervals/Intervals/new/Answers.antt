use Rattle.cdm_runway.proofs.IntervalLemmas.{values_of-none}
use Rattle.cdm_runway.proofs.intervals.Intervals.new.Goals as goal

pub returns : goal.returns
returns g c = rw c.new.ensures.items (values_of-none c.args.places c.args.rest)
