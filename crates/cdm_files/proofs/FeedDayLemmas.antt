-- What the day of an airport file and a feed keeps.
use Rattle.cdm_files.proofs.Words.{◌≡◌, ℕ, ◌+◌, Bool, true, false, not, List, [], ◌∷◌, Option, None, Some, Result, Ok, Err, IfOk, refl}
use Rattle.cdm_files.proofs.Words.{subst, ⊤, if◌then◌else◌, result_map_both, IsDistinct, ok_or, has_runway, AirportRows, RefusalWord, Order}
use Rattle.cdm_files.proofs.Words.{Unknown, with_runway, with_space, with_taxi, flights_in}
use Rattle.cdm_files.specs.{AirportFile.{airport_in, airport_record_of, with_record}, Fields.{and_then, of_one}}
use Rattle.cdm_files.specs.{FeedDay.{accepted_in, spelled_in}, Files.after_records, Records.records_of, Refused.updates_in}
use Rattle.cdm_files.specs.declared.airport_file.AirportRecord.{AirportRecord, TheVariants.{Day, Runway, Space, Taxi}}
use Rattle.cdm_flight.specs.Names.{same_name}
use Rattle.cdm_plan.{specs.Airport.IsAirport, proofs.JournalFacts.names_after}
use Rattle.cdm_day.proofs.BatchLemmas.{accepted-keeps}
use Rattle.cdm_day.proofs.AirportLemmas.{airport_after_runway, airport_after_taxi, airport_with_space, airport_without_rows}

-- Each flight becomes known once.

pub own_journal : (g : AirportRows) (feed : List ℕ) → IsDistinct same_name (flights_in (accepted_in g feed))
unfolding accepted_in IsDistinct
own_journal g feed = accepted-keeps (λ a. IsDistinct same_name (flights_in a)) g (names_after g) [] (updates_in (spelled_in g feed)) tt

-- An airport file gives its runways names of their own.

abbrev pub Keeps : Option AirportRows → Type 0
Keeps None = ⊤
Keeps (Some g) = IsAirport g

row-kept : (r : Result AirportRows RefusalWord) → ((h : AirportRows) → r ≡ Ok h → IsAirport h) → IfOk (of_one Some r) Keeps
row-kept (Ok h) k = k h refl
row-kept (Err word) k = tt

unless-refused : (b : Bool) (word : RefusalWord) (g h : AirportRows) → IsAirport g → (if b then Err word else Ok g) ≡ Ok h → IsAirport h
unless-refused true word g h k e = cc
unless-refused false word g h k e = let same : g ≡ h = cc in subst IsAirport same k

record-kept : (s : Option AirportRows) (said : AirportRecord) → Keeps s → IfOk (with_record s said) Keeps
unfolding with_record
record-kept None (Day day) k = airport_without_rows _ refl refl
record-kept None _ k = tt
record-kept (Some g) (Day day) k = tt
record-kept (Some g) (Runway r cell cap) k = row-kept (with_runway g r cell cap) (λ h. airport_after_runway g h r cell cap k)
record-kept (Some g) (Taxi place r minutes) k = row-kept (with_taxi g place r minutes) (λ h. airport_after_taxi g h place r minutes k)
record-kept (Some g) (Space r group minutes) k =
    row-kept (with_space g r group minutes) (λ h. unless-refused (not (has_runway g r)) Unknown _ h (airport_with_space r group minutes g k))

fields-kept : (s : Option AirportRows) (fields : List (List ℕ)) → Keeps s → IfOk (and_then (airport_record_of fields) (with_record s)) Keeps
fields-kept s fields k = elim (airport_record_of fields) as (λ r. IfOk (and_then r (with_record s)) Keeps) [
  | Ok said ↦ record-kept s said k
  | Err word ↦ tt
]

records-kept : (s : Option AirportRows) (number : ℕ) (records : List (List (List ℕ))) → Keeps s
    → IfOk (after_records airport_record_of with_record s number records) Keeps
unfolding after_records
records-kept s number [] k = k
records-kept s number (fields ∷ later) k = by (λ next. records-kept next (number + 1) later) (and_then (airport_record_of fields) (with_record s)) (fields-kept s fields k)
  where
    by : ((next : Option AirportRows) → Keeps next → IfOk (after_records airport_record_of with_record next (number + 1) later) Keeps)
        → (r : Result (Option AirportRows) RefusalWord) → IfOk r Keeps
        → IfOk (and_then (result_map_both (λ next. next) (λ word. (number, word)) r) (λ next. after_records airport_record_of with_record next (number + 1) later)) Keeps
    by more (Ok next) h = more next h
    by more (Err word) h = tt

began-kept : (r : Result (Option AirportRows) (ℕ × RefusalWord)) (fault : ℕ × RefusalWord) → IfOk r Keeps
    → IfOk (and_then r (λ rows. ok_or rows fault)) IsAirport
began-kept (Ok (Some g)) fault h = h
began-kept _ fault h = tt

pub own_airport : (text : List ℕ) (g : AirportRows) → airport_in text ≡ Ok g → IsAirport g
unfolding airport_in
own_airport text g h =
    let kept = began-kept (after_records airport_record_of with_record None 1 (records_of text)) (1, Order) (records-kept None 1 (records_of text) tt) in
    subst (λ (r : Result AirportRows (ℕ × RefusalWord)). IfOk r IsAirport) h kept
