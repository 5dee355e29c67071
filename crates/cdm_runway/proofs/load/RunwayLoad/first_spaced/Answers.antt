use Rattle.std.proofs.Common.{arith}
use Rattle.cdm_runway.proofs.PassedLemmas.{met_step}
use Rattle.cdm_runway.proofs.load.RunwayLoad.first_spaced.Goals as goal

pub loop-minute-preserved : goal.loop-minute-preserved
loop-minute-preserved c =
    let inv = c.loop-minute.invariant in
    let first = c.in-Some.ensures in
    let met = c.in-Some-met_until.ensures in
    let past = c.past-number-in-Some.ensures in
    record {
      begun = omega (arith, inv.begun, first.after, met.0, past.after);
      none = met_step c.args.runway.now c.args.self.now.taken c.args.group c.args.met c.args.from c.loop-minute.number c.in-Some.minute
          c.in-Some-met_until.free c.past-number-in-Some.result c.requires.met inv.none first.least met.1 past.passed;
    }
