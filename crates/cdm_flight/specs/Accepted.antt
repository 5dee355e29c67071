-- Which updates are refused and why, and what a batch of them leaves.
use Rattle.std.specs.Prelude.{ℕ, ◌%◌, ◌==◌, Bool, false, not, ◌&&◌, ◌||◌, nat_lt, nat_le, if◌then◌else◌, List, [], ◌∷◌, ◌++◌, length, Option, None, Some, is_none, is_some, count_by}
use Rattle.std.specs.Option.{option_and_then, option_map_or, option_or}
use Rattle.std.specs.List.{filter_map, fold}
use Rattle.cdm_flight.specs.declared.role.Role.{Role}
use Rattle.cdm_flight.specs.declared.update.Update.{Update}
use Rattle.cdm_flight.specs.declared.update.Update.TheVariants.{Flt, Rate, Close, Reopen, Taxi, Clock}
use Rattle.cdm_flight.specs.declared.word.RefusalWord.{RefusalWord}
use Rattle.cdm_flight.specs.declared.word.RefusalWord.TheVariants.{Authority, Unknown, Exists, Order, Full}
use Rattle.cdm_flight.specs.Authority.{may_make}
use Rattle.cdm_flight.specs.Reach.{flight_of_update, runway_of_update}
use Rattle.cdm_flight.specs.Step.{is_fresh, step_refusal}
use Rattle.cdm_flight.specs.Taxi.{stand_of_place, stands_in, is_one_stand_too_many}
use Rattle.cdm_flight.specs.Journal.{AirportRows, runway_row, is_known, exot_of, flight_of, values_of}

-- the airport has the runway
abbrev pub has_runway : AirportRows → List ℕ → Bool
has_runway g r = is_some (runway_row g r)

-- UNKNOWN: the flight of the update isn't known, or its runway isn't the airport's; an FLT makes its
-- flight known
abbrev pub is_unknown : AirportRows → List Update → Update → Bool
is_unknown g a u =
    option_map_or (λ r. not (has_runway g r)) (runway_of_update u) false
    || (not (is_fresh u) && option_map_or (λ f. not (is_known a f)) (flight_of_update u) false)

-- the word of a flight's own state: ENDED, OFFBLOCK, ORDER or NOTREADY
abbrev pub flight_refusal : AirportRows → List Update → Update → Option RefusalWord
flight_refusal g a u =
    option_and_then (λ f. option_and_then (λ r. step_refusal r.status r.runway u (exot_of g a f)) (flight_of g a f)) (flight_of_update u)

-- ORDER: a clock that goes back, a window that has no minute or cuts a cell
abbrev pub is_disordered : AirportRows → List Update → Update → Bool
is_disordered g a (Clock m) = nat_lt m (values_of a).clock
is_disordered g a (Rate r from to cap) =
    nat_le to from || option_map_or (λ row. not (from % row.cell == 0) || not (to % row.cell == 0)) (runway_row g r) false
is_disordered g a (Close r from to) = nat_le to from
is_disordered g a (Reopen r from to) = nat_le to from
is_disordered g a _ = false

-- the stand that a TAXI names
abbrev pub stand_with_taxi : Update → Option (List ℕ)
stand_with_taxi (Taxi place r minutes) = stand_of_place place
stand_with_taxi _ = None

-- the stands that have taxi rows, in the airport or by TAXI
abbrev pub stands_with_rows : AirportRows → List Update → List (List ℕ)
stands_with_rows g a = stands_in g.taxi ++ filter_map stand_with_taxi a

-- FULL: 20,000 updates were accepted, 2,000 flights are known, or 400 stands have rows
abbrev pub is_full : AirportRows → List Update → Update → Bool
is_full g a (Flt f p) = nat_le 20000 (length a) || nat_le 2000 (count_by is_fresh a)
is_full g a (Taxi place r minutes) = nat_le 20000 (length a) || is_one_stand_too_many (stands_with_rows g a) place
is_full g a _ = nat_le 20000 (length a)

-- the first word that holds, of those that ask the airport and the journal
unfoldable pub refusal_of : AirportRows → List Update → Update → Option RefusalWord
refusal_of g a u =
    if is_unknown g a u then Some Unknown
    else if is_fresh u && option_map_or (is_known a) (flight_of_update u) false then Some Exists
    else option_or (flight_refusal g a u) (if is_disordered g a u then Some Order else if is_full g a u then Some Full else None)

-- the first word that holds, the role's authority before the others
unfoldable pub refusal : AirportRows → List Update → Role → Update → Option RefusalWord
refusal g a role u = if may_make role u then refusal_of g a u else Some Authority

-- the journal after one update
abbrev pub after_one : AirportRows → List Update → Role × Update → List Update
after_one g a p = if is_none (refusal g a p.0 p.1) then a ++ p.1 ∷ [] else a

-- the journal after a batch
unfoldable pub accepted : AirportRows → List Update → List (Role × Update) → List Update
accepted g a records = fold (after_one g) a records

-- the replies to a batch: none where the update was accepted, else the word
unfoldable pub replies_to : AirportRows → List Update → List (Role × Update) → List (Option RefusalWord)
replies_to g a [] = []
replies_to g a (p ∷ later) = refusal g a p.0 p.1 ∷ replies_to g (after_one g a p) later
