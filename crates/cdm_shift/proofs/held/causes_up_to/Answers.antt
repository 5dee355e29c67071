use Rattle.std.proofs.{Common.{◌≡◌, ◌∙◌, ◌+◌, ◌-◌, ◌≤◌, ◌++◌, [], None, Some, inl, inr, ap, refl, sym, arith}, lemmas.List.append-nil}
use Rattle.std.specs.List.{cons_option, filter_map, range_with_len}
use Rattle.cdm_sequence.specs.declared.slot.Slot.{Slot}
use Rattle.cdm_view.specs.Causes.{cause_at}
use Rattle.cdm_shift.proofs.{ListLemmas.given_more, held.causes_up_to.Goals.{in-Some+in_ok-push_last, in_default}}
use Rattle.cdm_shift.proofs.held.causes_up_to.Goals as goal

pub loop-number-init : goal.loop-number-init
loop-number-init c =
    let w = c.args.waiting.now in
    let from = w.tobt + w.exot in
    let none : c.earliest-number.result - from ≡ 0 = omega (arith, c.earliest-number.ensures.value) in
    record { causes = c.new-causes.ensures.items ∙ sym (ap (λ n. filter_map (cause_at w) (range_with_len from n)) none); short = inr refl }

pub loop-number-preserved : goal.loop-number-preserved
loop-number-preserved c =
    let w = c.args.waiting.now in
    let from = w.tobt + w.exot in
    let m = c.loop-number.number in
    let so = c.loop-number.causes.items in
    let low : from ≤ m = omega (arith, c.earliest-number.ensures.value, c.loop-number.auto.number) in
    let here : c.cause_at.result ≡ cause_at w m = c.cause_at.ensures ∙ ap (cause_at w) c.at.ensures in
    let more = given_more (cause_at w) so c.match-cause_at.causes.items from m low c.loop-number.invariant.causes in
    let causes : c.match-cause_at.causes.items ≡ filter_map (cause_at w) (range_with_len from (m + 1 - from)) = elim c.match-cause_at.branch [
      | in-Some+in_ok-push_last v ↦
          let some : cause_at w m ≡ Some v.in-Some.cause = sym here ∙ v.in-Some.is in
          more ((λ i. (v.causes-is i).items) ∙ v.in_ok-push_last.ensures ∙ (λ i. so ++ cons_option (sym some i) []))
      | in_default v ↦
          let none : cause_at w m ≡ None = sym here ∙ v.in_default.is in
          more ((λ i. (v.causes-is i).items) ∙ sym (append-nil so) ∙ (λ i. so ++ cons_option (sym none i) []))
    ] in
    record { causes = causes; short = inl (omega arith) }

pub returns : goal.returns
returns c =
    let w = c.args.waiting.now in
    let from = w.tobt + w.exot in
    let own : c.get-number-end.result ≡ c.args.slot.now.ttot = c.get-number-end.ensures.value ∙ ap (λ (s : Slot). s.ttot) c.slot.view_is in
    let same : c.loop-number.number - from ≡ c.args.slot.now.ttot - from = elim c.loop-number.invariant.short [
      | inl short ↦ omega (arith, own, short, c.loop-number-test.false)
      | inr start ↦ omega (arith, own, start, c.earliest-number.ensures.value, c.loop-number-test.false)
    ] in
    c.loop-number.invariant.causes ∙ ap (λ n. filter_map (cause_at w) (range_with_len from n)) same
