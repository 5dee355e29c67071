-- The taxi-out time that the code takes is the journal's where it matters.
use Rattle.cdm_day.proofs.Words.{◌≡◌, ℕ, List, Option, Some, sym, ap, ◌∙◌, rules, option_and_then}
use Rattle.cdm_day.proofs.DayWords.{Place, Update, Flight, step_of, TaxiRows, taxi_out, AirportRows, is_known, is_cancelled, of_flight}
use Rattle.cdm_day.proofs.DayWords.{aobt_of, atot_of, exot_now, exot_of, record_with, flight_of, taxi_of, before_off-all, status_of-record}
use Rattle.cdm_day.proofs.DayWords.{planned_says}
use Rattle.cdm_flight.specs.declared.flight.Status.{Status, TheVariants.Planned}
use Rattle.std.specs.FinMap as map_of

-- only OFF of a planned flight asks for the taxi-out time
pub step_of-same : (r : Flight) (u : Update) (e h : Option ℕ) → (r.status ≡ Planned → e ≡ h) → step_of r u e ≡ step_of r u h
step_of-same r u e h same = search rules

-- the taxi-out time to the runway of the record, from the table
abbrev pub exot_by : TaxiRows → Flight → Option ℕ
exot_by rows r = option_and_then (λ runway. taxi_out (λ place. map_of.get rows (place, runway)) r.stand r.ice) r.runway

exot_by-record : (g : AirportRows) (a : List Update) (rows : TaxiRows) (f : List ℕ) (s : Status) → ((place : Place) (r : List ℕ) → map_of.get rows (place, r) ≡ taxi_of g a place r)
    → exot_by rows (record_with f (of_flight f a) s) ≡ exot_now g a f
exot_by-record g a rows f s same = search rules

-- of a planned flight it is the journal's
pub exot_by-planned : (g : AirportRows) (a : List Update) (rows : TaxiRows) (f : List ℕ) (r : Flight) → ((place : Place) (r : List ℕ) → map_of.get rows (place, r) ≡ taxi_of g a place r)
    → flight_of g a f ≡ Some r → r.status ≡ Planned → exot_by rows r ≡ exot_of g a f
unfolding exot_of
exot_by-planned g a rows f r same there planned =
    let told = status_of-record f g a r there in
    let says = planned_says (is_cancelled a f) (atot_of a f) (aobt_of a f) (exot_of g a f) (is_known a f) (told.0 ∙ ap Some planned) in
    ap (exot_by rows) (sym told.1) ∙ (exot_by-record g a rows f r.status same ∙ ap (λ l. exot_now g l f) (sym (before_off-all f a says.2)))
