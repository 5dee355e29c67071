use Rattle.cdm_plan.proofs.MadeLemmas.{work_can, work_done, work_planned}
use Rattle.cdm_plan.proofs.planning.plan_keeping.Goals as goal

pub run_here-requires-after_bounds : goal.run_here-requires-after_bounds
run_here-requires-after_bounds g c κs within = rw c.deref.ensures.value (work_planned c.in_ok-work.ensures)

pub run_here-requires-2-after_bounds : goal.run_here-requires-2-after_bounds
run_here-requires-2-after_bounds g c κs within =
    let aims = rw c.deref.ensures.value at c.in_ok-aims.ensures in
    rw (c.deref-2.ensures.value, c.deref-3.ensures.value, c.deref-4.ensures.value)
    (work_can c.in_ok-work.ensures c.values-values.ensures.value c.in_ok-aims.aims.items aims)

pub plan_together-requires : goal.plan_together-requires
plan_together-requires g c =
    let aims = rw c.deref.ensures.value at c.in_ok-aims.ensures in
    let made = rw (c.deref-2.ensures.value, c.deref-3.ensures.value, c.deref-4.ensures.value) at c.in_ok-made.ensures in
    rw (c.deref-5.ensures.value, c.deref-6.ensures.value)
    (work_done c.in_ok-work.ensures c.values-values.ensures.value c.in_ok-aims.aims.items aims c.in_ok-made.made.items c.requires made)
