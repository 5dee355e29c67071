use Rattle.std.proofs.Common.{◌≡◌, ◌+◌, ◌∙◌, sym, ap, subst, cond, not, [], ◌∷◌, ◌++◌, take}
use Rattle.cdm_plan.proofs.ListWords.{append-nil}
use Rattle.cdm_view.specs.{Standings.{changes, flight_name, is_same_told, is_told}, inner.Passed.{from_name, is_first_told}}
use Rattle.cdm_view.proofs.{ChangeLemmas.unlike, PassedLemmas.{AreByName, StillHas, had_first, new_next, still_has}}
use Rattle.cdm_view.proofs.standings.Standings.changes.Goals.{else-not-branch, then-not-branch+in_ok-push_last}
use Rattle.cdm_view.proofs.standings.Standings.changes.Goals as goal

pub loop-standing-preserved : goal.loop-standing-preserved
loop-standing-preserved c =
    let day = c.args.day.now in
    let before = c.args.before.now in
    let told = c.loop-standing.told.now in
    let items = c.as_slice-standing-items.result.now in
    let place = c.loop-standing.standing-index in
    let s = c.standing-item.result in
    let keeps = rw (← c.as_slice-standing-items.ensures.items) at c.as_slice-standing-items.ensures.keeps in
    let alike = is_same_told day in
    let own : AreByName flight_name alike items = (keeps.by_name, keeps.apart) in
    let still = c.loop-standing.invariant.1 in
    let at = sym c.standing-item.is in
    let is_so = c.in_ok-is_first_told.field-0 in
    let left : c.from_flight-told.result.now ≡ from_name (flight_name s) told =
    c.from_flight-told.ensures ∙ ap (λ n. from_name n told) c.flight.ensures in
    let told_here : is_told day before s ≡ is_so =
    had_first flight_name alike (unlike day) before told items own place s c.loop-standing-test.true at still
    ∙ ap (λ l. is_first_told day l s) (sym left) ∙ sym c.in_ok-is_first_told.ensures in
    let next = new_next flight_name alike before items place s c.loop-standing-test.true at is_so told_here in
    let so_far = c.loop-standing.invariant.0 in
    let earlier = changes day before (take place items) in (
      elim c.if-not-branch.branch [
        | then-not-branch+in_ok-push_last w ↦ (λ i. (w.changed-is i).items) ∙ w.in_ok-push_last.ensures ∙ (λ i. so_far i ++ s ∷ [])
            ∙ sym (next ∙ λ i. earlier ++ cond (not (w.if-not-branch.true i)) (s ∷ []) [])
        | else-not-branch w ↦ (λ i. (w.changed-is i).items) ∙ so_far
            ∙ sym (next ∙ (λ i. earlier ++ cond (not (w.if-not-branch.false i)) (s ∷ []) []) ∙ append-nil earlier)
      ],
      subst (λ l. StillHas flight_name alike before l items (place + 1)) (sym left)
          (still_has flight_name alike (unlike day) before told items own place s c.loop-standing-test.true at still),
    )
