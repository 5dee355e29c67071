use Rattle.std.proofs.{Common.{◌≡◌, ◌+◌, ℕ, List, ◌∙◌, sym, ap, subst, cond, not, [], ◌∷◌, ◌++◌, take}, lemmas.List.append-nil}
use Rattle.cdm_row.{specs.Changed.changed_rows, specs.Changed.has_row, specs.Changed.same_row, specs.inner.Passed.from_name}
use Rattle.cdm_row.{specs.inner.Passed.is_first, specs.declared.row.Row.Row, proofs.PassedLemmas.StillHas, proofs.PassedLemmas.unlike}
use Rattle.cdm_row.{proofs.rows.Rows.changed_since.Goals.else-not-is_first, proofs.rows.Rows.changed_since.Goals.then-not-is_first+in_ok-push_last}
use Rattle.cdm_view.proofs.PassedLemmas.{AreByName, had_first, new_next, still_has}
use Rattle.cdm_row.proofs.rows.Rows.changed_since.Goals as goal

pub loop-row-preserved : goal.loop-row-preserved
loop-row-preserved c =
    let before = c.args.before.now in
    let left = c.loop-row.left.now in
    let items = c.as_slice-row-items.result.now in
    let place = c.loop-row.row-index in
    let r = c.row-item.result in
    let name : Row → List ℕ = λ row. row.flight in
    let keeps = rw (← c.as_slice-row-items.ensures.items) at c.as_slice-row-items.ensures.keeps in
    let own : AreByName name same_row items = (keeps.by_name, keeps.apart) in
    let still = c.loop-row.invariant.1 in
    let at = sym c.row-item.is in
    let is_so = c.is_first.result in
    let passed : c.from_flight-left.result.now ≡ from_name r.flight left = c.from_flight-left.ensures in
    let had_here : has_row before r ≡ is_so =
    had_first name same_row unlike before left items own place r c.loop-row-test.true at still ∙ ap (λ l. is_first l r) (sym passed) ∙ sym c.is_first.ensures in
    let next = new_next name same_row before items place r c.loop-row-test.true at is_so had_here in
    let so_far = c.loop-row.invariant.0 in
    let earlier = changed_rows before (take place items) in (
      elim c.if-not-is_first.branch [
        | then-not-is_first+in_ok-push_last w ↦ (λ i. (w.changed-is i).items) ∙ w.in_ok-push_last.ensures ∙ (λ i. so_far i ++ r ∷ [])
            ∙ sym (next ∙ λ i. earlier ++ cond (not (w.if-not-is_first.true i)) (r ∷ []) [])
        | else-not-is_first w ↦ (λ i. (w.changed-is i).items) ∙ so_far
            ∙ sym (next ∙ (λ i. earlier ++ cond (not (w.if-not-is_first.false i)) (r ∷ []) []) ∙ append-nil earlier)
      ],
      subst (λ l. StillHas before l items (place + 1)) (sym passed) (still_has name same_row unlike before left items own place r c.loop-row-test.true at still),
    )
