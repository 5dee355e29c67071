use Rattle.std.proofs.Common.{ltb, sym, subst, ◌∙◌, ap, rules}
use Rattle.std.proofs.lemmas.List.Sorted.{IsNonDecreasingBy-drop, IsNonDecreasingBy-take, IsPartitionPoint-from_clause, IsPartitionedBy-ltb}
use Rattle.cdm_sequence.specs.declared.slot.Slot.{Slot}
use Rattle.cdm_view.{specs.Reasons.Waiting, specs.inner.Earlier.IsByTakeOff, proofs.EarlierLemmas.part_is}
use Rattle.cdm_view.proofs.waiting.Waiting.earlier_in.Goals as goal

pub returns : goal.returns
returns c =
    let view = ap (λ (w : Waiting). w.earlier) c.self.view_is in
    let order = subst IsByTakeOff (sym c.deref.ensures.value) c.self.invariant.in_order in
    let order_2 = subst IsByTakeOff (sym c.deref-2.ensures.value) c.self.invariant.in_order in
    let begin = IsPartitionPoint-from_clause (λ (s : Slot). ltb s.ttot c.args.from) _ _ c.partition_point-first.ensures.partitioned
    (IsPartitionedBy-ltb (λ (s : Slot). s.ttot) _ c.args.from order) (λ a r q k. search rules) in
    let end = IsPartitionPoint-from_clause (λ (s : Slot). ltb s.ttot c.args.to) _ _ c.partition_point-count.ensures.partitioned
    (IsPartitionedBy-ltb (λ (s : Slot). s.ttot) _ c.args.to
    (IsNonDecreasingBy-take (λ (s : Slot). s.ttot) _ _ (IsNonDecreasingBy-drop (λ (s : Slot). s.ttot) _ _ order_2))) (λ a r q k. search rules) in
    part_is (λ (s : Slot). s.ttot) c.args.from c.args.to _ _ c.deref.result.now c.deref-2.result.now c.args.self.now.earlier
    (c.deref.ensures.value ∙ view) (c.deref-2.ensures.value ∙ view) begin end
