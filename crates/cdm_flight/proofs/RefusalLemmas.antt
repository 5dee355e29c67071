-- The words of the journal are those of the flight's record.
use Rattle.std.{proofs.Common.{◌≡◌, false, List, ℕ, None, Some, refl, ap, rules}, specs.Prelude.if◌then◌else◌, specs.Option.option_or}
use Rattle.cdm_flight.specs.declared.reach.Reach.TheVariants as reach
use Rattle.cdm_flight.specs.{declared.update.Update.Update, declared.word.RefusalWord.TheVariants.Full, Reach.{flight_in, reach_of}}
use Rattle.cdm_flight.specs.{declared.flight.Flight.Flight, Step.{is_fresh, step_refusal}, Journal.{AirportRows, exot_of, flight_of}}
use Rattle.cdm_flight.specs.Accepted.{is_unknown, is_disordered, is_full, refusal_of}

-- a flight's update is no clock and has no window
ordered-flight : (g : AirportRows) (a : List Update) (u : Update) (f : List ℕ) → reach_of u ≡ reach.Flight f → is_disordered g a u ≡ false
ordered-flight g a u f e = search rules

-- the words on an update of a flight that is known
pub refusal_of-flight : (g : AirportRows) (a : List Update) (u : Update) (f : List ℕ) (r : Flight)
    → reach_of u ≡ reach.Flight f → is_fresh u ≡ false → is_unknown g a u ≡ false → flight_of g a f ≡ Some r
    → refusal_of g a u ≡ option_or (step_refusal r.status r.runway u (exot_of g a f)) (if is_full g a u then Some Full else None)
unfolding refusal_of
refusal_of-flight g a u f r e fresh known there = rw (known, fresh, ordered-flight g a u f e, ap flight_in e, there) refl
