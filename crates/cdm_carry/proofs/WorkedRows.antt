-- The definitions of the next day, computed on worked examples: a flight AB1 on runway 27L, planned for the next day, and
-- what else may happen in the old one.
use Rattle.std.{proofs.Common.{◌≡◌, ℕ, List, [], ◌∷◌, ◌++◌, Option, None, Some, Ok, Err, refl, map}, specs.Prelude.codes}
use Rattle.cdm_flight.specs.declared.{role.Role.Role, update.Update.Update}
use Rattle.cdm_flight.specs.Journal.{AirportRows, exot_of, flight_of, values_of}
use Rattle.cdm_flight.specs.Accepted.{refusal, refusal_of}
use Rattle.cdm_flight.specs.declared.place.Place.TheVariants as place
use Rattle.cdm_flight.specs.declared.role.Role.TheVariants as role
use Rattle.cdm_flight.specs.declared.update.Update.TheVariants as update
use Rattle.cdm_time.specs.{Times.{date_text, stamp, time_text}, declared.calendar.CalendarDate.CalendarDate}
use Rattle.cdm_flight.specs.declared.flight.{Flight.Flight, Status.Status}
use Rattle.cdm_flight.specs.declared.flight.Status.TheVariants.{Airborne, Cancelled, OffBlock, Planned}
use Rattle.cdm_flight.specs.Record.{fresh}
use Rattle.cdm_carry.specs.Carry.{carried_all, taken}
use Rattle.cdm_carry.specs.Texts.{feed_text, fields_text, record_text}
use Rattle.cdm_carry.specs.NoticeTexts.{notice_line}
use Rattle.cdm_carry.specs.Notices.{Numbered, counts, earlier, left, numbered, refused_of}
use Rattle.cdm_carry.specs.declared.notice.Notice.TheVariants as notice
use Rattle.cdm_report.specs.Columns.{time_column}
use Rattle.cdm_flight.specs.declared.word.RefusalWord.TheVariants as word
use Rattle.std.specs.Fmt.{decimal}

abbrev r27 : List ℕ
r27 = codes "27L"

abbrev ab1 : List ℕ
ab1 = codes "AB1"

abbrev cd2 : List ℕ
cd2 = codes "CD2"

abbrev Records : Type 0
Records = List (Role × Update)

-- what the next day has of these records, where each is accepted
abbrev next : Records → Records
next records = carried_all (map (λ (p : Role × Update). p.1) records) records

-- a flight that is planned for a TOBT
abbrev planned : List ℕ → ℕ → Records
planned f t = (role.AirportOperator, update.Flt f 5) ∷ (role.AirTrafficControl, update.Rwy f r27) ∷ (role.AircraftOperator, update.Tobt f t) ∷ []

abbrev atc : Update → Records
atc u = (role.AirTrafficControl, u) ∷ []

-- a planned flight and the clock, each in the next day: the minutes are less by a day
goes_on : next (planned ab1 1800 ++ atc (update.Clock 1620)) ≡ planned ab1 360 ++ atc (update.Clock 180)
goes_on = refl

-- a flight that left its stand before the next day stays behind with all its updates, whether it took off or not
airborne : next (planned ab1 1800 ++ planned cd2 1320 ++ atc (update.Off cd2 1320) ++ atc (update.Air cd2 1335)) ≡ planned ab1 360
airborne = refl

off_block : next (planned ab1 1800 ++ planned cd2 1320 ++ atc (update.Off cd2 1320)) ≡ planned ab1 360
off_block = refl

-- and so does one that is cancelled
cancelled : next (planned cd2 1800 ++ (role.AircraftOperator, update.Cnl cd2) ∷ []) ≡ []
cancelled = refl

-- a closure begins no earlier than the next day, and isn't there where it has ended by then
closed : next (atc (update.Close r27 1320 1830)) ≡ atc (update.Close r27 0 390)
closed = refl

ended : next (atc (update.Close r27 1320 1440)) ≡ []
ended = refl

-- the end of the horizon is a bound; a taxi time and a tolerance go on, whenever they came; an earlier CLOCK doesn't
lasting : next (atc (update.Clock 1439) ++ atc (update.Rate r27 1800 2880 1) ++ atc (update.Taxi (place.Stand (codes "A1")) r27 9)
    ++ (role.NetworkManager, update.Tol (record { before = 5; after = 15 })) ∷ [])
    ≡ atc (update.Rate r27 360 1440 1) ++ atc (update.Taxi (place.Stand (codes "A1")) r27 9) ++ (role.NetworkManager, update.Tol (record { before = 5; after = 15 })) ∷ []
lasting = refl

-- a planned flight with an earlier TOBT or CTOT has the first minute of the next day in its place; a CTOT that is taken back is itself
first_minute : next (planned cd2 1420 ++ (role.NetworkManager, update.Ctot cd2 (Some 1430)) ∷ (role.NetworkManager, update.Ctot cd2 None) ∷ [])
    ≡ planned cd2 0 ++ (role.NetworkManager, update.Ctot cd2 (Some 0)) ∷ (role.NetworkManager, update.Ctot cd2 None) ∷ []
first_minute = refl

-- a flight that left its stand in the next day goes on with its OFF and AIR, and with what came before them
left_in_it : next (planned ab1 1560 ++ atc (update.Off ab1 1560) ++ atc (update.Taxi place.Default r27 40) ++ atc (update.Air ab1 1580))
    ≡ planned ab1 120 ++ atc (update.Off ab1 120) ++ atc (update.Taxi place.Default r27 40) ++ atc (update.Air ab1 140)
left_in_it = refl

-- where the next airport hasn't the runway, it accepts the FLT and the TOBT alone
no_runway : (h : AirportRows) → h.runways ≡ []
    → taken h [] (next (planned ab1 1800)) ≡ (role.AirportOperator, update.Flt ab1 5) ∷ (role.AircraftOperator, update.Tobt ab1 360) ∷ []
unfolding taken refusal refusal_of exot_of flight_of values_of
no_runway h none = rw none refl

-- nothing comes of nothing
nothing : next [] ≡ []
nothing = refl

-- As texts: the records as a feed of the next day, and what is told before it.

abbrev march_10 : CalendarDate
march_10 = record { year = 2025; month = 3; day = 10 }

abbrev march_11 : CalendarDate
march_11 = record { year = 2025; month = 3; day = 11 }

feed : feed_text march_11 (next (atc (update.Clock 1620) ++ atc (update.Close r27 1320 1830)))
    ≡ codes "ATC,CLOCK,2025-03-11T03:00Z\nATC,CLOSE,27L,2025-03-11T00:00Z,2025-03-11T06:30Z\n"
unfolding feed_text record_text fields_text time_text date_text
feed = refl

planned_text : fields_text march_11 (update.Tobt ab1 360) ≡ codes "AB1,2025-03-11T06:00Z"
unfolding fields_text time_text date_text
planned_text = refl

-- a flight of which this is known, on runway 27L
abbrev known : List ℕ → Option ℕ → Status → Flight
known f tobt status = record (fresh f 5) { tobt = tobt; runway = Some r27; status = status }

-- LEFT: it has left its stand before the next day
is_left : left (known cd2 (Some 1320) (OffBlock 1320 15)) ≡ Some (notice.Left cd2 r27 1320 1335)
is_left = refl

left_later : left (known ab1 (Some 1560) (OffBlock 1560 15)) ≡ None
left_later = refl

-- EARLIER: a planned flight with a TOBT at 23:40
is_earlier : earlier (known cd2 (Some 1420) Planned) ≡ notice.EarlierTobt cd2 1420 ∷ []
unfolding earlier
is_earlier = refl

-- REFUSED: where the next airport hasn't the runway, by its number in the feed
abbrev with_numbers : List Numbered
with_numbers = (1, (role.AirportOperator, update.Flt ab1 5)) ∷ (2, (role.AirTrafficControl, update.Rwy ab1 r27)) ∷ (3, (role.AircraftOperator, update.Tobt ab1 360)) ∷ []

is_refused : (h : AirportRows) → h.runways ≡ [] → refused_of h [] with_numbers ≡ notice.Refused 2 word.Unknown role.AirTrafficControl (update.Rwy ab1 r27) ∷ []
unfolding refused_of refusal refusal_of exot_of flight_of values_of
is_refused h none = rw none refl

-- a record that the old airport refuses has a number, and isn't there
after_a_refused_one : (g : AirportRows) → numbered g [] 1 (Err word.Role ∷ Ok (role.AirportOperator, update.Flt ab1 5) ∷ [])
    ≡ (2, (role.AirportOperator, update.Flt ab1 5)) ∷ []
unfolding numbered refusal refusal_of exot_of flight_of values_of
after_a_refused_one g = refl

-- GONE and STAY
counted : counts (known cd2 (Some 1320) (Airborne 1320 1335) ∷ known ab1 (Some 1560) (OffBlock 1560 15) ∷ known cd2 (Some 1320) (OffBlock 1320 15) ∷ known ab1 None Cancelled ∷ [])
    ≡ notice.Gone 2 ∷ notice.Stay 1 ∷ []
counted = refl

-- the lines
left_line : notice_line march_10 march_11 (notice.Left cd2 r27 1320 1335) ≡ codes "LEFT    CD2 27L AOBT 102200 TTOT 102215\n"
unfolding notice_line time_column stamp
left_line = refl

earlier_line : notice_line march_10 march_11 (notice.EarlierTobt cd2 1420) ≡ codes "EARLIER CD2 TOBT 102340\n"
unfolding notice_line time_column stamp
earlier_line = refl

refused_line : notice_line march_10 march_11 (notice.Refused 2 word.Unknown role.AirTrafficControl (update.Rwy ab1 r27))
    ≡ codes "REFUSED " ++ (decimal 2 ++ codes " UNKNOWN ATC,RWY,AB1,27L\n")
unfolding notice_line record_text fields_text
refused_line = refl
