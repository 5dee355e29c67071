use Rattle.cdm_phase.proofs.{Values.AllZip-piece, Slots.AreSlotsOf-take}
use Rattle.cdm_phase.proofs.assembly.assemble.Goals as goal

pub loop-number-preserved : goal.loop-number-preserved
loop-number-preserved g c =
    let gives = g.J.Job.gives c.args.job.now in
    let n = c.loop-number.number in
    let before = c.loop-number.invariant in
    record {
      slots = rw c.take.ensures.after
          (AreSlotsOf-take c.args.pieces.items c.loop-number.slot-items n before.slots);
      outs = rw c.in_ok-append.ensures.items
          (AllZip-piece gives c.args.items.now c.args.grain n c.loop-number.outs.items
          c.in_ok-part.part.items before.outs c.in_ok-part.ensures);
    }
