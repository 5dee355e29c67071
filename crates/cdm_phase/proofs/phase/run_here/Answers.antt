use Rattle.std.proofs.Common.{arith}
use Rattle.cdm_phase.proofs.Values.{AllZip-step}
use Rattle.cdm_phase.proofs.phase.run_here.Goals as goal

pub loop-item-preserved : goal.loop-item-preserved
loop-item-preserved g c =
    let gives = g.J.Job.gives c.args.job.now in
    rw c.in_ok-push.ensures.items
    (AllZip-step gives c.args.items.now c.loop-item.outs.items c.loop-item.item-index _ _
    (omega arith) c.item-item.is c.loop-item.invariant c.in_ok-run.ensures)
