-- Laws of a journal, which a served day keeps.
use Rattle.std.specs.Prelude.{◌≡◌, ◌≢◌, ◌<◌, ℕ, List, [], ◌∷◌, ◌++◌, length, map, false, None, Ok}
use Rattle.cdm_flight.specs.Accepted.{accepted, refusal}
use Rattle.cdm_flight.specs.Journal.{AirportRows}
use Rattle.cdm_flight.specs.declared.role.Role.{Role}
use Rattle.cdm_flight.specs.declared.update.Update.{Update}
use Rattle.cdm_files.specs.FeedDay.{accepted_in, refusals_in}
use Rattle.cdm_files.specs.Parsing.{parse_of}
use Rattle.cdm_files.specs.Records.{records_of}
use Rattle.cdm_files.specs.Refused.{refused_in, updates_in}
use Rattle.cdm_journal.specs.Journal.{has_line_feed, journal_line, journal_text, whole_lines}
use Rattle.cdm_journal.specs.Lines.{line_record}
use Rattle.cdm_journal.specs.Lines.LineRecord.{One}

-- none of these records is refused in its turn, and they make these updates
pub record Make (g : AirportRows) (records : List (List (List ℕ))) (updates : List Update) : Type 0 where
  pub none_refused : refused_in g [] 1 (map (parse_of g.day) records) ≡ []
  pub accepts : accepted g [] (updates_in (map (parse_of g.day) records)) ≡ updates

-- the day takes the update that a record spells, behind these updates
abbrev pub IsTaken : AirportRows → List Update → List (List ℕ) → Update → Type 0
IsTaken g updates fields update = (role : Role) × (parse_of g.day fields ≡ Ok (role, update)) × (refusal g updates role update ≡ None)

-- Read back.

-- the records of a feed of which none is refused make the feed's updates
abbrev pub FeedMakes : Type 0
FeedMakes = (g : AirportRows) (feed : List ℕ) → refusals_in g feed ≡ [] → Make g (records_of feed) (accepted_in g feed)

-- a journal of records of which none is refused reads as these records
abbrev pub ReadsBack : Type 0
ReadsBack = (g : AirportRows) (records : List (List (List ℕ))) (updates : List Update) → Make g records updates → records_of (journal_text records) ≡ records

-- so none is refused there, and it has their updates
abbrev pub HasUpdates : Type 0
HasUpdates = (g : AirportRows) (records : List (List (List ℕ))) (updates : List Update) → Make g records updates
    → (refusals_in g (journal_text records) ≡ []) × (accepted_in g (journal_text records) ≡ updates)

-- and it has less than 2 MiB, since FULL refuses the update behind the 20,000th
abbrev pub IsShort : Type 0
IsShort = (g : AirportRows) (records : List (List (List ℕ))) (updates : List Update) → Make g records updates → length (journal_text records) < 2097152

-- One more record.

-- its line stands behind the others
abbrev pub AddsLine : Type 0
AddsLine = (records : List (List (List ℕ))) (fields : List (List ℕ)) → journal_text (records ++ fields ∷ []) ≡ journal_text records ++ journal_line fields

-- and with it the records make one update more
abbrev pub AddsUpdate : Type 0
AddsUpdate = (g : AirportRows) (records : List (List (List ℕ))) (updates : List Update) (fields : List (List ℕ)) (update : Update)
    → Make g records updates → IsTaken g updates fields update → Make g (records ++ fields ∷ []) (updates ++ update ∷ [])

-- Whole lines.

-- all lines of a journal are whole
abbrev pub IsWhole : Type 0
IsWhole = (records : List (List (List ℕ))) → whole_lines (journal_text records) ≡ journal_text records

-- of the line of a record that was read from a line, a first part short of its line feed is left out
abbrev pub LeavesTorn : Type 0
LeavesTorn = (records : List (List (List ℕ))) (line : List ℕ) (fields : List (List ℕ)) (part rest : List ℕ) → has_line_feed line ≡ false → line_record line ≡ One fields
    → part ++ rest ≡ journal_line fields → rest ≢ [] → whole_lines (journal_text records ++ part) ≡ journal_text records
