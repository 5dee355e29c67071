-- The flights of the next day.
use Rattle.std.proofs.Common.{◌≡◌, ℕ, Bool, true, false, List, Option, None, Some, refl, ap, ◌∙◌, map, filter, filter_map}
use Rattle.std.specs.Bool.{then_some}
use Rattle.std.specs.Option.{IfSome, option_and_then, option_map}
use Rattle.cdm_flight.specs.declared.flight.Flight.{Flight}
use Rattle.cdm_flight.specs.declared.flight.Status.{Status}
use Rattle.cdm_flight.specs.declared.update.Update.{Update}
use Rattle.cdm_flight.specs.declared.update.Update.TheVariants as update
use Rattle.cdm_flight.specs.Journal.{AirportRows, flight_of, of_flight, record_with, status_of}
use Rattle.cdm_plan.specs.Day.{flights_in}
use Rattle.cdm_plan.specs.DayPlan.{records_in}
use Rattle.cdm_plan.proofs.PlanWords.{new_flight}
use Rattle.cdm_carry.specs.Carry.{carried, goes_on, moved, stays}
use Rattle.cdm_change.specs.NextDay.{next_flight, next_journal}
use Rattle.cdm_change.proofs.FlightLemmas.{flight_of-next}
use Rattle.cdm_change.proofs.ListLemmas.{filter_map-given, given_changed}

-- An FLT goes on where its flight stays.
none_new : (b : Bool) (v : Update) → new_flight v ≡ None → option_and_then new_flight (then_some b v) ≡ None
none_new true v e = e
none_new false v e = refl

new_carried : (a : List Update) (u : Update) → option_and_then new_flight (carried a u) ≡ option_and_then (λ f. then_some (stays a f) f) (new_flight u)
new_carried a (update.Flt f p) = by (stays a f)
  where
    by : (b : Bool) → option_and_then new_flight (then_some b (update.Flt f p)) ≡ then_some b f
    by true = refl
    by false = refl
new_carried a u = none_new (goes_on a u) (moved u) refl

-- The next day knows the flights that stay, in their order.
pub flights_in-next : (a : List Update) → flights_in (next_journal a) ≡ filter (stays a) (flights_in a)
flights_in-next a = filter_map-given (carried a) new_flight new_flight (stays a) (new_carried a) a

named : (a : List Update) (f : List ℕ) (o : Option Status) → IfSome (option_map (record_with f (of_flight f a)) o) (λ x. stays a x.name ≡ stays a f)
named a f None = tt
named a f (Some s) = refl

flight_of-named : (g : AirportRows) (a : List Update) (f : List ℕ) → IfSome (flight_of g a f) (λ x. stays a x.name ≡ stays a f)
unfolding flight_of
flight_of-named g a f = named a f (status_of g a f)

-- Each as it was, with its minutes.
pub records_in-next : (g h : AirportRows) → h.taxi ≡ g.taxi → (a : List Update)
    → records_in h (next_journal a) ≡ map next_flight (filter (λ f. stays a f.name) (records_in g a))
records_in-next g h taxi a =
    ap (λ (fs : List (List ℕ)). filter_map (flight_of h (next_journal a)) fs) (flights_in-next a)
    ∙ given_changed (stays a) (λ (f : Flight). stays a f.name) (flight_of g a) (flight_of h (next_journal a)) next_flight
    (λ f stay. flight_of-next g h taxi a f stay) (flight_of-named g a) (flights_in a)
