-- A journal's life: any number of starts and stops.
use Rattle.std.specs.Prelude.{◌≡◌, ◌⊎◌, ⊤, ℕ, Bool, List, [], ◌∷◌, ◌++◌, Option, None, Some}
use Rattle.cdm_files.specs.FeedDay.{accepted_in, refusals_in}
use Rattle.cdm_flight.specs.Journal.{AirportRows}
use Rattle.cdm_flight.specs.declared.update.Update.{Update}
use Rattle.cdm_port.specs.Event.{Event}
use Rattle.cdm_port.specs.Event.Event.{Read}
use Rattle.cdm_serve.specs.Disk.{Disk, MayBeLeft, disk_after, found}
use Rattle.cdm_serve.specs.Promises.{told, untold, updates_of}
use Rattle.cdm_serve.specs.Served.{IsStopped, day_of, start_text}
use Rattle.cdm_serve.specs.Taken.{TakenRecord}
use Rattle.cdm_serve.specs.declared.form.ReplyForm.{ReplyForm}

-- a start: the form of its replies, whether it found the journal marked as served, and all that has happened since
pub record Start : Type 0 where
  pub form : ReplyForm
  pub marked : Bool
  pub done : List Event

-- the disk after these starts, of which the latest is the first
abbrev pub disk_of : Disk → List Start → Disk
disk_of first [] = first
disk_of first (start ∷ before) = disk_after (disk_of first before) start.done

-- what a start finds may be left by those before it: a process that was stopped leaves all that it wrote, a machine that was stopped any of
-- what may be left
abbrev pub Finds : Disk → Start → Type 0
Finds disk start = (bytes : List ℕ) (moment : List Event) → start.done ≡ Read bytes ∷ moment → MayBeLeft disk start.marked bytes

-- each of these starts serves the day of an airport from what it finds, until it stops anywhere
abbrev pub IsLife : AirportRows → Disk → List Start → Type 0
IsLife g first [] = ⊤
IsLife g first (start ∷ before) = IsLife g first before × IsStopped start.form g start.marked start.done × Finds (disk_of first before) start

-- the updates that a start accepted and whose reply it began
abbrev pub told_since : AirportRows → Bool → List Event → List Update
told_since g marked (Read bytes ∷ moment) = updates_of (told (day_of g marked bytes) None moment)
told_since g marked other = []

-- the record that it accepted and whose reply it didn't begin
abbrev pub untold_since : AirportRows → Bool → List Event → Option TakenRecord
untold_since g marked (Read bytes ∷ moment) = untold (day_of g marked bytes) None moment
untold_since g marked other = None

-- these updates are all of those, or there is this one more
abbrev pub AreAllOrOneMore : List Update → Option TakenRecord → List Update → Type 0
AreAllOrOneMore all None updates = updates ≡ all
AreAllOrOneMore all (Some one) updates = (updates ≡ all) ⊎ (updates ≡ all ++ one.update ∷ [])

-- these updates are the first ones, then all that each start told, in order, with at most one more for each stop
abbrev pub AreKept : AirportRows → List Update → List Start → List Update → Type 0
AreKept g first [] updates = updates ≡ first
AreKept g first (start ∷ before) updates = (earlier : List Update) × AreKept g first before earlier
    × AreAllOrOneMore (earlier ++ told_since g start.marked start.done) (untold_since g start.marked start.done) updates

-- However often a journal is started and stopped, and wherever: whatever the last stop may leave, a start refuses none of it, and has the updates that
-- the journal first had, then all that were told, in order, with at most one more for each stop.
abbrev pub LifeIsKept : Type 0
LifeIsKept = (g : AirportRows) (marked : Bool) (bytes : List ℕ) (starts : List Start) → refusals_in g (start_text marked bytes) ≡ [] → IsLife g (found marked bytes) starts
    → (later : Bool) (left : List ℕ) → MayBeLeft (disk_of (found marked bytes) starts) later left
    → (refusals_in g (start_text later left) ≡ []) × AreKept g (accepted_in g (start_text marked bytes)) starts (accepted_in g (start_text later left))
