-- A flight with a slot is held for its delay.
use Rattle.std.proofs.Common.{◌≡◌, ◌∙◌, ℕ, ◌+◌, ◌-◌, ◌<◌, List, Option, None, Some, ap, length, sym, arith}
use Rattle.std.specs.{Prelude.{Contains, IsSome, if◌then◌else◌}, List.{filter_map, find, range_with_len}, Option.option_and_then}
use Rattle.cdm_flight.specs.{Names.same_name, declared.flight.Flight.Flight}
use Rattle.cdm_sequence.specs.declared.{plan.Plan.Plan, slot.Slot.Slot}
use Rattle.cdm_plan.{specs.Day.DayRecord, proofs.NameLemmas.find_some, proofs.PlanWords.same_is}
use Rattle.cdm_view.specs.{Causes.cause_at, Reasons.{Waiting, slots_on, waiting_of}, Waits.Waits, Why.{own_slot, waits_for}}
use Rattle.cdm_shift.{specs.Held.{causes_of, causes_until}, proofs.ListLemmas.each_given}

-- the flight's own slot is one of its runway, and of its name
pub own_is : (plan : Plan) (f : Flight) (r : List ℕ) (s : Slot) → f.runway ≡ Some r → own_slot plan f ≡ Some s
    → Contains (slots_on plan r) s × (s.name ≡ f.name)
own_is plan f r s on own =
    let test = λ (s : Slot). same_name s.name f.name in
    let here : find test (slots_on plan r) ≡ Some s = ap (λ (o : Option (List ℕ)). option_and_then (λ r. find test (slots_on plan r)) o) (sym on) ∙ own in
    let found = find_some test (slots_on plan r) s here in
    (found.0, same_is s.name f.name found.1)

-- what it waits for
pub waits_are : (d : DayRecord) (plan : Plan) (f : Flight) (w : Waiting) → Waits d plan f w → waits_for d plan f ≡ Some w
waits_are d plan f w is = ap (λ b. if b then waiting_of d plan f else None) is.planned ∙ is.waits

-- so many causes as minutes of delay
pub held_so_long : (d : DayRecord) (plan : Plan) (f : Flight) (w : Waiting) (s : Slot) (delay : ℕ) → waits_for d plan f ≡ Some w → own_slot plan f ≡ Some s
    → s.ttot ≡ w.tobt + w.exot + delay → ((m : ℕ) → m < s.ttot → IsSome (cause_at w m)) → length (causes_of d plan f) ≡ delay
held_so_long d plan f w s delay waits own delayed each =
    let from = w.tobt + w.exot in
    let long : s.ttot - from ≡ delay = omega (arith, delayed) in
    (λ i. length (causes_until (waits i) (own i)))
    ∙ ap (λ n. length (filter_map (cause_at w) (range_with_len from n))) long
    ∙ each_given (cause_at w) from delay (λ m low high. each m (omega (arith, delayed, high)))
