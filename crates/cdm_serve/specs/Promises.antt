-- What a served day promises at each moment.
use Rattle.std.specs.Prelude.{◌≡◌, ◌⊎◌, ℕ, Bool, List, [], ◌∷◌, ◌++◌, map, Option, None, Some}
use Rattle.std.specs.Option.{option_to_list}
use Rattle.cdm_files.specs.FeedDay.{accepted_in, refusals_in}
use Rattle.cdm_files.specs.Records.{records_of}
use Rattle.cdm_flight.specs.Journal.{AirportRows}
use Rattle.cdm_flight.specs.declared.update.Update.{Update}
use Rattle.cdm_plan.specs.Day.{DayRecord}
use Rattle.cdm_port.specs.Event.{Event}
use Rattle.cdm_port.specs.Event.Event.{Broken, Line, Read, Replied}
use Rattle.cdm_port.specs.Stop.{IsStopOf}
use Rattle.cdm_serve.specs.Disk.{MayBeLeft, disk_after, found}
use Rattle.cdm_serve.specs.Served.{day_of, start_text}
use Rattle.cdm_serve.specs.Taken.{TakenRecord, after, record_heard, taken}

-- Records.

-- the accepted records whose reply was begun; last is the record of the line that was heard last, where it is accepted and
-- not replied to
abbrev pub told : DayRecord → Option TakenRecord → List Event → List TakenRecord
told d last [] = []
told d last (Line line ∷ events) = told (after d (record_heard (Some line))) (taken d (record_heard (Some line))) events
told d last (Broken ∷ events) = told (after d (record_heard None)) (taken d (record_heard None)) events
told d last (Replied text ∷ events) = option_to_list last ++ told d None events
told d last (other ∷ events) = told d last events

-- the accepted record whose reply wasn't begun, where there is one
abbrev pub untold : DayRecord → Option TakenRecord → List Event → Option TakenRecord
untold d last [] = last
untold d last (Line line ∷ events) = untold (after d (record_heard (Some line))) (taken d (record_heard (Some line))) events
untold d last (Broken ∷ events) = untold (after d (record_heard None)) (taken d (record_heard None)) events
untold d last (Replied text ∷ events) = untold d None events
untold d last (other ∷ events) = untold d last events

-- their fields
abbrev pub rows_of : List TakenRecord → List (List (List ℕ))
rows_of records = map (λ one. one.fields) records

-- their updates
abbrev pub updates_of : List TakenRecord → List Update
updates_of records = map (λ one. one.update) records

-- What a start reads.

-- a start refuses nothing of this journal: it reads these records, which make these updates
pub record IsReadAs (g : AirportRows) (marked : Bool) (left : List ℕ) (records : List (List (List ℕ))) (updates : List Update) : Type 0 where
  pub none_refused : refusals_in g (start_text marked left) ≡ []
  pub has_records : records_of (start_text marked left) ≡ records
  pub has_updates : accepted_in g (start_text marked left) ≡ updates

-- it reads all of these records, and at most this one more
abbrev pub HasAll : AirportRows → Bool → List ℕ → List (List (List ℕ)) → List Update → Option TakenRecord → Type 0
HasAll g marked left records updates None = IsReadAs g marked left records updates
HasAll g marked left records updates (Some one) =
    IsReadAs g marked left records updates ⊎ IsReadAs g marked left (records ++ one.fields ∷ []) (updates ++ one.update ∷ [])

-- Promises, of what has happened since a journal of these bytes, which was on the disk, was read.

-- Where none of its records was refused: whatever a stop may leave, the journal as it is written too, has the records that it
-- had, then all accepted records whose reply was begun, in order, and at most one more, of the line that was heard last. A start
-- refuses none of them.
abbrev pub IsKept : AirportRows → Bool → List ℕ → List Event → Type 0
IsKept g marked bytes events = refusals_in g (start_text marked bytes) ≡ [] → (later : Bool) (left : List ℕ) → MayBeLeft (disk_after (found marked bytes) (Read bytes ∷ events)) later left
    → HasAll g later left (records_of (start_text marked bytes) ++ rows_of (told (day_of g marked bytes) None events))
    (accepted_in g (start_text marked bytes) ++ updates_of (told (day_of g marked bytes) None events)) (untold (day_of g marked bytes) None events)

-- It holds at each moment since the journal was read: of its bytes, and of what had happened then.
abbrev pub AtEachMoment : List Event → (List ℕ → List Event → Type 0) → Type 0
AtEachMoment done Holds = (bytes : List ℕ) (moment : List Event) → IsStopOf (Read bytes ∷ moment) done → Holds bytes moment
