use Rattle.std.proofs.Common.{arith, sym, ap, ◌∙◌, Some, None}
use Rattle.cdm_sequence.specs.declared.slot.Slot.{Slot}
use Rattle.cdm_report.{specs.inner.Counting.with_delay, proofs.CountLemmas.fold-delays_in_more}
use Rattle.cdm_report.proofs.counts.Counts.add_slots.Goals.{in-Some, in_default}
use Rattle.cdm_report.proofs.counts.Counts.add_slots.Goals as goal

pub loop-slot-preserved : goal.loop-slot-preserved
loop-slot-preserved c =
    let more = fold-delays_in_more c.args.self.now c.args.slots.now c.loop-slot.slot-index c.slot-item.result in
    let delay = ap (λ (s : Slot). s.delay) (sym c.slot.view_is) in
    record {
      counted = elim c.match-slot.branch [
        | in-Some w ↦ w.self-is ∙ w.add_delay.ensures.counted ∙ ap (λ x. with_delay x w.in-Some.delay) c.loop-slot.invariant.counted
            ∙ sym (more (Some w.in-Some.delay) c.loop-slot-test.true c.slot-item.is (delay ∙ w.in-Some.is))
        | in_default w ↦ w.self-is ∙ c.loop-slot.invariant.counted ∙ sym (more None c.loop-slot-test.true c.slot-item.is (delay ∙ w.in_default.is))
      ];
      placed = elim c.match-slot.branch [ in-Some w ↦ rw w.self-is (omega arith) | in_default w ↦ rw w.self-is (omega arith) ];
      late = elim c.match-slot.branch [ in-Some w ↦ rw w.self-is (omega arith) | in_default w ↦ rw w.self-is (omega arith) ];
      sum = elim c.match-slot.branch [ in-Some w ↦ rw w.self-is (omega arith) | in_default w ↦ rw w.self-is (omega arith) ];
    }
