use Rattle.std.{proofs.Common.{◌≡◌, ℕ, List, refl, sym, ap, ◌∙◌, MatchOption, Some, Option}, specs.Global.Vec}
use Rattle.cdm_flight.specs.{declared.update.Update.Update}
use Rattle.cdm_plan.specs.Day.{DayRecord}
use Rattle.cdm_board.specs.History.{Call, DeskRecord, Opened, BoardRecord, AreNumbered, IsLegal, IsMerge, IsMismatch, day_now}
use Rattle.cdm_board.{specs.Closing.IsClosed, proofs.Desks.not_so}
use Rattle.cdm_board.proofs.board.Board.close.Goals as goal

same_desks : (n m : ℕ) (ks js : List DeskRecord) → n ≡ m → ks ≡ js → AreNumbered n ks → AreNumbered m js
same_desks n m ks js e f h = rw (← e, ← f) h

found : (o : Option (ℕ × ℕ)) (p : ℕ × ℕ) (P : Type 0) (Q : ℕ × ℕ → Type 0) → MatchOption o P Q → o ≡ Some p → Q p
found o p P Q h e = rw e at h

closed : (b : Opened) (ks : List DeskRecord) (s : BoardRecord) (h : List (ℕ × Call)) (d : DayRecord) → AreNumbered b.desks ks → s.airport ≡ b.airport
    → s.opening ≡ b.opening → h ≡ s.history → d ≡ day_now s → IsLegal s.airport s.opening s.history → IsMerge s.history ks → IsClosed b ks h d
closed b ks s h d numbered e f g k legal merge = (
  rw (g, ← e, ← f) legal,
  λ n. rw g (merge n),
  rw (g, ← e, ← f) k,
  numbered,
)

pub returns-then-not-are_numbered : goal.returns-then-not-are_numbered
returns-then-not-are_numbered c =
    let n = ap (λ (b : Opened). b.desks) c.board.view_is in
    (refl, refl, λ numbered. not_so c.are_numbered.result c.if-not-are_numbered.true c.are_numbered.ensures.1 (same_desks _ _ _ _ (sym n) (sym c.as_slice.ensures.value) numbered))

pub returns-then-not-began_from : goal.returns-then-not-began_from
returns-then-not-began_from c =
    let n = ap (λ (b : Opened). b.desks) c.board.view_is in
    let g = c.deref.ensures ∙ ap (λ (b : Opened). b.airport) c.board.view_is in
    let a = c.as_slice-2.ensures.value ∙ (ap (λ (v : Vec Update). v.items) c.deref-2.ensures ∙ ap (λ (b : Opened). b.opening) c.board.view_is) in (
      refl,
      same_desks _ _ _ _ n c.as_slice.ensures.value (c.are_numbered.ensures.0 c.if-not-are_numbered.false),
      c.calls-calls.ensures.legal,
      λ began. not_so c.began_from.result c.if-not-began_from.true c.began_from.ensures.1 (began.0 ∙ sym g, began.1 ∙ sym a),
    )

pub returns-in-Some : goal.returns-in-Some
returns-in-Some c =
    let n = ap (λ (b : Opened). b.desks) c.board.view_is in
    let g = c.deref.ensures ∙ ap (λ (b : Opened). b.airport) c.board.view_is in
    let a = c.as_slice-2.ensures.value ∙ (ap (λ (v : Vec Update). v.items) c.deref-2.ensures ∙ ap (λ (b : Opened). b.opening) c.board.view_is) in
    let began = c.began_from.ensures.0 c.if-not-began_from.false in (
      refl,
      same_desks _ _ _ _ n c.as_slice.ensures.value (c.are_numbered.ensures.0 c.if-not-are_numbered.false),
      c.calls-calls.ensures.legal,
      began.0 ∙ g,
      began.1 ∙ a,
      rw (← c.as_slice-3.ensures.value) (found c.mismatch.result (c.in-Some.desk, c.in-Some.receipt) _
          (λ p. IsMismatch c.into_inner-state.result.history c.as_slice-3.result.now p.0 p.1) c.mismatch.ensures c.in-Some.is),
    )

pub returns : goal.returns
returns c =
    let n = ap (λ (b : Opened). b.desks) c.board.view_is in
    let g = c.deref.ensures ∙ ap (λ (b : Opened). b.airport) c.board.view_is in
    let a = c.as_slice-2.ensures.value ∙ (ap (λ (v : Vec Update). v.items) c.deref-2.ensures ∙ ap (λ (b : Opened). b.opening) c.board.view_is) in
    let began = c.began_from.ensures.0 c.if-not-began_from.false in
    closed c.args.board c.args.desks.items c.into_inner-state.result c.into_parts.result.0 c.into_parts.result.1
    (same_desks _ _ _ _ n c.as_slice.ensures.value (c.are_numbered.ensures.0 c.if-not-are_numbered.false))
    (began.0 ∙ g) (began.1 ∙ a) c.into_parts.ensures.history c.into_parts.ensures.day c.calls-calls.ensures.legal
    (rw (← c.as_slice-3.ensures.value) c.in_default.ensures)
