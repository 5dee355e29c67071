-- What the carried updates say of what they touch.
use Rattle.std.proofs.Common.{◌≡◌, ℕ, Bool, true, false, List, [], ap, ◌∙◌, map}
use Rattle.std.specs.Bool.{then_some}
use Rattle.std.specs.List.{filter_map}
use Rattle.std.specs.Option.{IfSome}
use Rattle.cdm_flight.specs.declared.reach.Reach.{Reach}
use Rattle.cdm_flight.specs.declared.reach.Reach.TheVariants as reach
use Rattle.cdm_flight.specs.declared.update.Update.{Update}
use Rattle.cdm_flight.specs.Journal.{of_flight}
use Rattle.cdm_flight.specs.Reach.{reach_of, same_reach, touching}
use Rattle.cdm_carry.specs.Carry.{carried, goes_on, moved, stays}
use Rattle.cdm_carry.proofs.LawLemmas.{goes_on-flight, reach_of-moved}
use Rattle.cdm_plan.proofs.JournalFacts.{flight_named}
use Rattle.cdm_change.proofs.ListLemmas.{filter-given, given_all, given_none}

abbrev touches : Reach → Update → Bool
touches what u = same_reach (reach_of u) what

-- An update that is carried touches what it touched.
reach-carried : (what : Reach) (u v : Update) → reach_of v ≡ reach_of u → (b : Bool) → IfSome (then_some b v) (λ w. touches what w ≡ touches what u)
reach-carried what u v same true = ap (λ r. same_reach r what) same
reach-carried what u v same false = tt

pub touching-carried : (a : List Update) (what : Reach) (us : List Update) → touching what (filter_map (carried a) us) ≡ filter_map (carried a) (touching what us)
touching-carried a what us = filter-given (touches what) (touches what) (carried a) (λ u. reach-carried what u (moved u) (reach_of-moved u) (goes_on a u)) us

-- Those of a flight that stays are all carried, in their order.
pub of_flight-carried : (a : List Update) (f : List ℕ) → stays a f ≡ true → (us : List Update) → of_flight f (filter_map (carried a) us) ≡ map moved (of_flight f us)
of_flight-carried a f stay us =
    touching-carried a (reach.Flight f) us
    ∙ given_all (touches (reach.Flight f)) (carried a) moved
    (λ u e. ap (λ b. then_some b (moved u)) (goes_on-flight a f u (flight_named (reach_of u) f e) ∙ stay)) us

-- Those of another flight are not.
pub of_flight-gone : (a : List Update) (f : List ℕ) → stays a f ≡ false → (us : List Update) → of_flight f (filter_map (carried a) us) ≡ []
of_flight-gone a f gone us =
    touching-carried a (reach.Flight f) us
    ∙ given_none (touches (reach.Flight f)) (carried a)
    (λ u e. ap (λ b. then_some b (moved u)) (goes_on-flight a f u (flight_named (reach_of u) f e) ∙ gone)) us
