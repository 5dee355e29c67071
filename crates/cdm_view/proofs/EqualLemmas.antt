-- Standings that `==` finds equal are equal.
use Rattle.std.proofs.{Common.◌≡◌, Common.true, Common.ap, Common.rules, lemmas.Bool.and_parts, lemmas.Bool.false≢true}
use Rattle.std.specs.Bool.{Decides}
use Rattle.cdm_plan.proofs.PlanWords.{same_is, same_name}
use Rattle.cdm_sequence.{specs.declared.slot.Slot.Slot, specs.declared.slot.BlockedFlight.BlockedFlight, proofs.EqualLemmas.slots_decide}
use Rattle.cdm_view.specs.declared.standing.Standing.{Standing, TheVariants.OnRunway, TheVariants.Blocked, TheVariants.Cancelled}
use Rattle.cdm_sequence.specs.contracts.slot.BlockedFlightPartialEq.TheImpl as blocked_eq
use Rattle.cdm_sequence.specs.contracts.slot.SlotPartialEq.TheImpl as slot_eq
use Rattle.cdm_view.specs.contracts.standing.StandingPartialEq.TheImpl as standing_eq

blocked_decide : (a b : BlockedFlight) → Decides ((blocked_eq.ghosts).eq a b) (a ≡ b)
blocked_decide a b = search rules

pub equal_slots : (s t : Slot) → (slot_eq.ghosts).eq s t ≡ true → s ≡ t
equal_slots s t = (slots_decide s t).0

pub equal_standings : (s t : Standing) → (standing_eq.ghosts).eq s t ≡ true → s ≡ t
equal_standings (OnRunway r s) (OnRunway q t) h =
    let parts = and_parts (same_name r q) _ h in
    λ i. OnRunway (same_is r q parts.0 i) (equal_slots s t parts.1 i)
equal_standings (Blocked b) (Blocked c) h = ap Blocked ((blocked_decide b c).0 h)
equal_standings (Cancelled m) (Cancelled n) h = ap Cancelled (same_is m n h)
equal_standings _ _ h = absurd (false≢true h)
