-- What a person must know before the next day begins.
use Rattle.std.specs.Prelude.{◌≡◌, ℕ, ◌+◌, Bool, true, false, not, nat_lt, List, [], ◌∷◌, ◌++◌, filter, flat_map, length, if◌then◌else◌, is_none, Option, None, Some, Ok, Err}
use Rattle.std.specs.List.{cons_option, filter_map}
use Rattle.std.specs.Option.{option_and_then, option_map}
use Rattle.cdm_flight.specs.declared.flight.Flight.{Flight}
use Rattle.cdm_flight.specs.declared.flight.Status.{Status}
use Rattle.cdm_flight.specs.declared.flight.Status.TheVariants.{Planned, OffBlock, Airborne, Cancelled}
use Rattle.cdm_flight.specs.declared.role.Role.{Role}
use Rattle.cdm_flight.specs.declared.update.Update.{Update}
use Rattle.cdm_flight.specs.declared.word.RefusalWord.{RefusalWord}
use Rattle.cdm_flight.specs.Accepted.{after_one, refusal}
use Rattle.cdm_flight.specs.Journal.{AirportRows}
use Rattle.cdm_files.specs.Refused.{Spelled}
use Rattle.cdm_carry.specs.Carry.{carried_record}
use Rattle.cdm_carry.specs.declared.notice.Notice.{Notice}
use Rattle.cdm_carry.specs.declared.notice.Notice.TheVariants.{Left, EarlierTobt, EarlierCtot, Refused, Gone, Stay}

-- a person has to see to it
abbrev pub needs_care : Notice → Bool
needs_care (Gone count) = false
needs_care (Stay count) = false
needs_care notice = true

-- Flights. Their minutes are those of the day that ends.

-- LEFT: the flight has left its stand before the next day, which doesn't know it, and isn't airborne
abbrev pub left_by : Flight → Status → List ℕ → Option Notice
left_by f (OffBlock aobt exot) runway = if nat_lt aobt 1440 then Some (Left f.name runway aobt (aobt + exot)) else None
left_by f status runway = None

-- off-block each flight has a runway
abbrev pub left : Flight → Option Notice
left f = option_and_then (left_by f f.status) f.runway

-- a minute of a planned flight that is before the next day
abbrev pub if_early : ℕ → Option ℕ
if_early m = if nat_lt m 1440 then Some m else None

abbrev pub early : Status → Option ℕ → Option ℕ
early Planned minute = option_and_then if_early minute
early status minute = None

-- EARLIER: its TOBT, and its CTOT, were before the next day, whose first minute takes their place
unfoldable pub earlier : Flight → List Notice
earlier f = cons_option (option_map (EarlierTobt f.name) (early f.status f.tobt)) (cons_option (option_map (EarlierCtot f.name) (early f.status f.ctot)) [])

-- a flight of this status stays
abbrev pub stays_by : Status → Bool
stays_by Planned = true
stays_by (OffBlock aobt exot) = not (nat_lt aobt 1440)
stays_by (Airborne aobt atot) = not (nat_lt aobt 1440)
stays_by Cancelled = false

-- it stays behind, and isn't left
abbrev pub is_gone : Status → Bool
is_gone (Airborne aobt atot) = nat_lt aobt 1440
is_gone Cancelled = true
is_gone status = false

-- GONE and STAY: how many flights do so
abbrev pub counts : List Flight → List Notice
counts flights = Gone (length (filter (λ f. is_gone f.status) flights)) ∷ Stay (length (filter (λ f. stays_by f.status) flights)) ∷ []

-- Records, with their numbers in the feed.

abbrev pub Numbered : Type 0
Numbered = ℕ × (Role × Update)

-- what a record of this number spells, if an airport accepts it behind these updates
abbrev pub if_taken : AirportRows → List Update → ℕ → Spelled → List Numbered
if_taken g a number (Err word) = []
if_taken g a number (Ok p) = if is_none (refusal g a p.0 p.1) then (number, p) ∷ [] else []

-- the updates after it
abbrev pub after_spelled : AirportRows → List Update → Spelled → List Update
after_spelled g a (Err word) = a
after_spelled g a (Ok p) = after_one g a p

-- the records of a feed that an airport accepts, one after another behind these updates; the first record has this number
unfoldable pub numbered : AirportRows → List Update → ℕ → List Spelled → List Numbered
numbered g a number [] = []
numbered g a number (s ∷ later) = if_taken g a number s ++ numbered g (after_spelled g a s) (number + 1) later

-- a record as the next day has it, if it does, has the number of the one that it was
abbrev pub carried_numbered : List Update → Numbered → Option Numbered
carried_numbered a n = option_map (λ p. (n.0, p)) (carried_record a n.1)

-- REFUSED: those that the next airport refuses, one after another behind these updates
abbrev pub refused : Numbered → RefusalWord → Notice
refused n word = Refused n.0 word n.1.0 n.1.1

unfoldable pub refused_of : AirportRows → List Update → List Numbered → List Notice
refused_of h b [] = []
refused_of h b (n ∷ later) = cons_option (option_map (refused n) (refusal h b n.1.0 n.1.1)) (refused_of h (after_one h b n.1) later)

-- All notices.

-- of these flights, and of the records of a feed that the airport accepted, behind which it has these updates
unfoldable pub notices : List Flight → List Update → List Numbered → AirportRows → List Notice
notices flights a records h =
    filter_map left flights ++ flat_map earlier flights ++ refused_of h [] (filter_map (carried_numbered a) records) ++ counts flights
