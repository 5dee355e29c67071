use Rattle.std.proofs.Common.{arith}
use Rattle.cdm_sequence.proofs.SequenceLemmas.{as_many}
use Rattle.cdm_sequence.proofs.sequencing.shown.Goals as goal

pub invariant_of-result : goal.invariant_of-result
invariant_of-result c =
    let few = as_many c.args.fixed.now c.args.decisions.now _ _ c.in_ok-slots.ensures.same c.in_ok-blocked.ensures.same in
    rw (c.in_ok-new.ensures, c.new-2.ensures) (record {
      slot_order = c.in_ok-slots.ensures.sorted;
      blocked_order = c.in_ok-blocked.ensures.sorted;
      few = omega (arith, few);
    })
