-- The flights of a runway that have left their stands, in a day and in the next one.
use Rattle.std.proofs.Common.{◌≡◌, ℕ, ◌+◌, ◌≤◌, ◌⊎◌, inl, inr, Bool, true, false, List, IfSome, Contains, sym, ap, ◌∙◌, subst, arith, map, filter, filter_map}
use Rattle.std.specs.Option.{option_map}
use Rattle.cdm_flight.proofs.Lists.{if_so}
use Rattle.cdm_flight.specs.declared.flight.Flight.{Flight}
use Rattle.cdm_flight.specs.declared.flight.Status.{Status}
use Rattle.cdm_flight.specs.declared.flight.Status.TheVariants as status
use Rattle.cdm_flight.specs.declared.group.Group.{Group}
use Rattle.cdm_flight.specs.declared.spacing.Spacing.{Spacing}
use Rattle.cdm_flight.specs.Spacing.{occupancy_of}
use Rattle.cdm_runway.specs.Rules.{RunwayRules}
use Rattle.cdm_runway.specs.Room.{taken_by}
use Rattle.cdm_runway.specs.declared.load.Taken.{Taken}
use Rattle.cdm_runway.proofs.CellLemmas.{cell_length-divides}
use Rattle.cdm_sequence.specs.Fixed.{fixed_slot, slot_by, takeoffs}
use Rattle.cdm_sequence.specs.declared.slot.Slot.{Slot}
use Rattle.cdm_plan.specs.Planning.{fixed_on}
use Rattle.cdm_plan.specs.inner.Aimed.{is_on}
use Rattle.cdm_plan.proofs.PlanningLemmas.{fixed_at, fixed_on-given}
use Rattle.cdm_change.specs.NextDay.{next_flight, next_status}
use Rattle.cdm_change.proofs.RoomLemmas.{Agrees, AreAlike, earlier_cell, given_alike}
use Rattle.cdm_change.proofs.RulesLemmas.{IsNextRunway}
use Rattle.cdm_change.proofs.SiftLemmas.{map-given, sifted-given}

-- How a flight may stand at the change of day: planned, with its times in the next day, it stays; off-block it left in the next
-- day, and stays; airborne it left in the next day, and stays, or it took off an hour before now, at the latest.
abbrev pub StandsBy : ℕ → Bool → Flight → Status → Type 0
StandsBy now stay f status.Planned = (stay ≡ true) × IfSome f.tobt (λ m. 1440 ≤ m) × IfSome f.ctot (λ m. 1440 ≤ m)
StandsBy now stay f (status.OffBlock aobt exot) = (stay ≡ true) × (1440 ≤ aobt)
StandsBy now stay f (status.Airborne aobt atot) = ((stay ≡ true) × (1440 ≤ aobt) × (aobt ≤ atot)) ⊎ ((stay ≡ false) × (atot + 60 ≤ now))
StandsBy now stay f status.Cancelled = stay ≡ false

module _ (r s : RunwayRules) (next : IsNextRunway r s) (short : (group : Group) → occupancy_of r.spacing group ≤ 60) (now m : ℕ) (here : now ≤ m + 1440) where
  -- what a slot takes
  abbrev takes : RunwayRules → Slot → Taken
  takes x slot = taken_by x slot.group slot.ttot

  same_occupancy : (group : Group) → occupancy_of r.spacing group ≡ occupancy_of s.spacing group
  same_occupancy group = ap (λ (x : Spacing). occupancy_of x group) (sym next.spacing)

  positive : 1 ≤ r.cell
  positive = (cell_length-divides r.cell next.cell_length).0

  within_hour : r.cell ≤ 60
  within_hour = (cell_length-divides r.cell next.cell_length).1

  by_status : (f : Flight) (stay : Bool) (x : Status) → StandsBy now stay f x
      → Agrees r.cell m (option_map (takes r) (slot_by f x)) (if_so stay (option_map (takes s) (slot_by (next_flight f) (next_status x))))
  by_status f true status.Planned stands = tt
  by_status f false status.Planned stands = tt
  by_status f true status.Cancelled stands = tt
  by_status f false status.Cancelled stands = tt
  by_status f true (status.OffBlock aobt exot) stands = (omega (arith, stands.1), same_occupancy f.group)
  by_status f false (status.OffBlock aobt exot) stands = cc (stands.0)
  by_status f true (status.Airborne aobt atot) (inl (stay, left, after)) = (omega (arith, left, after), same_occupancy f.group)
  by_status f true (status.Airborne aobt atot) (inr (gone, long)) = cc gone
  by_status f false (status.Airborne aobt atot) (inl (stay, left, after)) = cc stay
  by_status f false (status.Airborne aobt atot) (inr (gone, long)) =
      let occupancy = short f.group in
      let hour = within_hour in
      record { ended = omega (arith, long, here, occupancy); elsewhere = earlier_cell r.cell atot (m + 1440) positive (omega (arith, long, here, hour)) }

  -- what a flight's slot takes, if it is on the runway
  by_runway : (f : Flight) (stay on : Bool) → StandsBy now stay f f.status
      → Agrees r.cell m (option_map (takes r) (if_so on (slot_by f f.status)))
      (if_so stay (option_map (takes s) (if_so on (slot_by (next_flight f) (next_status f.status)))))
  by_runway f stay true stands = by_status f stay f.status stands
  by_runway f true false stands = tt
  by_runway f false false stands = tt

  one_fixed : (n : List ℕ) (f : Flight) (stay : Bool) → StandsBy now stay f f.status
      → Agrees r.cell m (option_map (takes r) (fixed_at n f)) (if_so stay (option_map (takes s) (fixed_at n (next_flight f))))
  unfolding fixed_slot
  one_fixed n f stay stands = by_runway f stay (is_on n f) stands

  -- What the fixed flights of a runway take is alike.
  pub fixed_alike : (stay : Flight → Bool) (fs : List Flight) → ((f : Flight) → Contains fs f → StandsBy now (stay f) f f.status) → (n : List ℕ)
      → AreAlike r s m (takeoffs r (fixed_on n fs)) (takeoffs s (fixed_on n (map next_flight (filter stay fs))))
  fixed_alike stay fs stand n =
      let before : takeoffs r (fixed_on n fs) ≡ filter_map (λ f. option_map (takes r) (fixed_at n f)) fs =
      ap (map (takes r)) (fixed_on-given n fs) ∙ map-given (takes r) (fixed_at n) fs in
      let after : takeoffs s (fixed_on n (map next_flight (filter stay fs))) ≡ filter_map (λ f. if_so (stay f) (option_map (takes s) (fixed_at n (next_flight f)))) fs =
      ap (map (takes s)) (fixed_on-given n (map next_flight (filter stay fs))) ∙ map-given (takes s) (fixed_at n) (map next_flight (filter stay fs))
      ∙ sifted-given stay next_flight (λ f. option_map (takes s) (fixed_at n f)) fs in
      subst (λ (ts : List Taken). AreAlike r s m ts (takeoffs s (fixed_on n (map next_flight (filter stay fs))))) (sym before)
      (subst (AreAlike r s m (filter_map (λ f. option_map (takes r) (fixed_at n f)) fs)) (sym after)
      (given_alike r s next m (λ f. option_map (takes r) (fixed_at n f)) (λ f. if_so (stay f) (option_map (takes s) (fixed_at n (next_flight f)))) fs
      (λ f i. one_fixed n f (stay f) (stand f i))))
