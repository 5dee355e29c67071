-- What spans have, and the hours round them.
use Rattle.std.proofs.Common.{◌≡◌, ◌∙◌, ◌++◌, ◌+◌, ◌≤◌, ℕ, List, [], length, take, Some, sym, ap, subst}
use Rattle.std.{proofs.lemmas.List.Elements.{All-push, All-weaker}, specs.{Prelude.All, Prelude.slice_get, List.cons_option}}
use Rattle.cdm_plan.proofs.NameLemmas.{all_taken, take-next}
use Rattle.cdm_scenario.specs.declared.outcome.Outcome.{Outcome, TheVariants.Planned, TheVariants.Refused}
use Rattle.cdm_sequence.specs.declared.{plan.Plan.Plan, plan.RunwayPlan.RunwayPlan, slot.Slot.Slot}
use Rattle.cdm_picture.specs.{Places.HaveTakeOffs, Places.IsWithin, declared.hours.Hours.Hours, declared.spans.Span.Span}
use Rattle.cdm_picture.specs.inner.Spans.{Has, HasOutcome, HasPlan, HasSlots, HaveOutcome, Keeps}

-- what holds of the first elements, and then of one more
pub one_more : {X : Type 0} (P Q : X → Type 0) (xs : List X) (k : ℕ) (x : X) → ((y : X) → P y → Q y) → slice_get xs k ≡ Some x
    → All P (take k xs) → Q x → All Q (take (k + 1) xs)
one_more P Q xs k x weaker at all here =
    subst (All Q) (sym (take-next xs k ∙ ap (λ o. take k xs ++ cons_option o []) at))
    (All-push Q (take k xs) x (All-weaker P Q weaker (take k xs) all) here)

-- and of all of them
pub all_of : {X : Type 0} (P : X → Type 0) (xs : List X) (k : ℕ) → length xs ≤ k → All P (take k xs) → All P xs
all_of P xs k long all = subst (All P) (all_taken xs k long) all

module _ (span longer : Span) (keeps : Keeps span longer) where
  pub slot_kept : (s : Slot) → Has span s.ttot → Has longer s.ttot
  slot_kept s = keeps s.ttot

  pub slots_kept : (p : RunwayPlan) → HasSlots span p.slots → HasSlots longer p.slots
  slots_kept p = All-weaker (λ s. Has span s.ttot) (λ s. Has longer s.ttot) slot_kept p.slots

  pub plan_kept : (plan : Plan) → HasPlan span plan → HasPlan longer plan
  plan_kept plan = All-weaker (λ p. HasSlots span p.slots) (λ p. HasSlots longer p.slots) slots_kept plan.runways

  pub outcome_kept : (o : Outcome) → HasOutcome span o → HasOutcome longer o
  outcome_kept (Planned plan counts) h = plan_kept plan h
  outcome_kept (Refused number word) h = h

module _ (span : Span) (hours : Hours) (within : (minute : ℕ) → Has span minute → IsWithin hours minute) where
  slots_within : (p : RunwayPlan) → HasSlots span p.slots → All (λ s. IsWithin hours s.ttot) p.slots
  slots_within p = All-weaker (λ s. Has span s.ttot) (λ s. IsWithin hours s.ttot) (λ s. within s.ttot) p.slots

  pub plan_within : (plan : Plan) → HasPlan span plan → HaveTakeOffs hours plan
  plan_within plan = All-weaker (λ p. HasSlots span p.slots) (λ p. All (λ s. IsWithin hours s.ttot) p.slots) slots_within plan.runways

  pub outcome_within : (o : Outcome) → HasOutcome span o → HaveOutcome hours o
  outcome_within (Planned plan counts) h = plan_within plan h
  outcome_within (Refused number word) h = h
