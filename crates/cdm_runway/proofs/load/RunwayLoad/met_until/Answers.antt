use Rattle.cdm_runway.{proofs.Words.{◌<◌, sym, arith, nat_tests}, proofs.LoadLemmas.met_either, specs.inner.Tally.noted}
use Rattle.cdm_runway.proofs.load.RunwayLoad.met_until.Goals as goal

pub returns : goal.returns
returns c =
    let inside = c.self.inside in
    let some : 0 < c.occupancy-occupancy.result = grind (arith, nat_tests, c.if-eq.ensures) in
    rw (sym c.self.view_is)
    (met_either c.args.runway.now (noted inside.taken.notes) inside.longest c.args.group c.args.minute c.self.invariant.kept
    (rw c.occupancy-occupancy.ensures.value at some) c.reach_beyond.result (rw c.occupancy-occupancy.ensures.value at c.reach_beyond.ensures))
