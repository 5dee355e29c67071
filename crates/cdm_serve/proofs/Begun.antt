-- The journal from the start of a served day on.
use Rattle.std.proofs.Common.{◌≡◌, ◌⊎◌, inl, inr, ℕ, Bool, Option, None, List, [], ◌∷◌, ◌++◌, length, drop, refl, sym, subst, append_assoc}
use Rattle.std.proofs.lemmas.List.{append-nil}
use Rattle.cdm_files.specs.{FeedDay.{accepted_in, refusals_in}, Records.records_of}
use Rattle.cdm_flight.specs.Journal.{AirportRows}
use Rattle.cdm_journal.{specs.Journal.journal_text, specs.Laws.Make, proofs.ReadLemmas.feed-makes}
use Rattle.cdm_plan.specs.Day.{DayRecord}
use Rattle.cdm_port.specs.{Event.Event, Event.Event.{Flushed, LeftOut, Marked, Read, Renamed, Replied, Synced}, Stop.IsStopOf}
use Rattle.cdm_port.proofs.Stops.{earlier}
use Rattle.cdm_serve.specs.Disk.{Disk, IsAmong, MayBeLeft, disk_after, disk_with, found}
use Rattle.cdm_serve.specs.Promises.{HasAll, IsKept, IsReadAs, rows_of, told, untold, updates_of}
use Rattle.cdm_serve.specs.Served.{IsStopped, begun, day_of, left_out, reading, ready_text, served, start_text, started}
use Rattle.cdm_serve.specs.Taken.{TakenRecord}
use Rattle.cdm_serve.specs.declared.form.ReplyForm.{ReplyForm}
use Rattle.cdm_serve.proofs.Kept.{AlwaysKeeps, always_keeps, by_moments, on_other, only_text, reads_own, same_text}

module _ (g : AirportRows) (marked : Bool) (disk : Disk) (bytes : List ℕ) where
  abbrev day : DayRecord
  day = day_of g marked bytes

  abbrev rows : List (List (List ℕ))
  rows = records_of (start_text marked bytes)

  -- Nothing was told and what may be left could be left before the start too, or a start reads all that was told.
  abbrev pub IsGood : List TakenRecord → Option TakenRecord → Bool → List ℕ → Type 0
  IsGood records last later left = ((records ≡ []) × (last ≡ None) × MayBeLeft disk later left)
      ⊎ HasAll g later left (rows ++ rows_of records) (day.journal ++ updates_of records) last

  -- behind a moment, from this disk on
  abbrev GoodFrom : Disk → List Event → Type 0
  GoodFrom now moment = (later : Bool) (left : List ℕ) → MayBeLeft (disk_after now moment) later left → IsGood (told day None moment) (untold day None moment) later left

  -- at a moment since the journal was read
  abbrev pub AreGood : List Event → Type 0
  AreGood = GoodFrom (disk_with disk (Read bytes))

  module _ (finds : MayBeLeft disk marked bytes) where
    read_now : AreGood []
    read_now = λ later left may. inl (
      refl,
      refl,
      (
        may.0,
        elim may.1 [
          | inl between ↦ subst (IsAmong disk.texts) (sym (same_text bytes left between.0 between.1)) finds.1
          | inr before ↦ before
        ],
      ),
    )

    -- what is left out is told
    past_left_out : (rest : List ℕ) (run : List Event) → ((moment : List Event) → IsStopOf moment run → AreGood moment)
        → (moment : List Event) → IsStopOf moment (left_out rest ++ run) → AreGood moment
    past_left_out [] run later = later
    past_left_out (byte ∷ rest) run later = by_moments AreGood (LeftOut (byte ∷ rest)) run read_now (λ m torn. absurd torn) later

    only_read : (moment : List Event) → IsStopOf moment (left_out (drop (length (start_text marked bytes)) bytes)) → AreGood moment
    only_read moment stop =
        past_left_out (drop (length (start_text marked bytes)) bytes) [] (λ m none. rw none read_now) moment
        (subst (IsStopOf moment) (sym (append-nil (left_out (drop (length (start_text marked bytes)) bytes)))) stop)

    module _ (accepted : refusals_in g (start_text marked bytes) ≡ []) (ready : List ℕ) (rest : List Event) (later : AlwaysKeeps day rest) where
      make : Make g rows day.journal
      make = feed-makes g (start_text marked bytes) accepted

      abbrev lines : List ℕ
      lines = journal_text rows

      own_left : (later : Bool) (left : List ℕ) → left ≡ lines → IsGood [] None later left
      own_left later left same = inr (rw (append-nil, append-nil) (reads_own g rows day.journal make later left same))

      abbrev renamed : Disk
      renamed = disk_with (disk_with disk (Read bytes)) (Renamed lines)

      renamed_now : GoodFrom renamed []
      renamed_now = λ later left may. elim may.1 [
        | inl between ↦ own_left later left (same_text lines left between.0 between.1)
        | inr before ↦ read_now later left (may.0, before)
      ]

      synced_now : GoodFrom (disk_with renamed Synced) []
      synced_now = λ later left may. own_left later left (only_text lines left may.1)

      begun_at : (moment : List Event) → IsStopOf moment (begun lines ready ++ rest) → AreGood moment
      begun_at =
          by_moments AreGood (Renamed lines) (Synced ∷ Marked ∷ Replied ready ∷ Flushed ∷ rest) read_now (λ m torn. absurd torn)
          (by_moments (GoodFrom renamed) Synced (Marked ∷ Replied ready ∷ Flushed ∷ rest) renamed_now (λ m torn. absurd torn)
          (by_moments (GoodFrom (disk_with renamed Synced)) Marked (Replied ready ∷ Flushed ∷ rest) synced_now (λ m torn. absurd torn)
          (λ m stop later_mark left may. inr (on_other day ready rest later rows make m stop later_mark left may))))

      started_at : (moment : List Event) → IsStopOf moment ((left_out (drop (length (start_text marked bytes)) bytes) ++ begun lines ready) ++ rest) → AreGood moment
      started_at moment stop =
          past_left_out (drop (length (start_text marked bytes)) bytes) (begun lines ready ++ rest) begun_at moment
          (subst (IsStopOf moment) (append_assoc (left_out (drop (length (start_text marked bytes)) bytes)) (begun lines ready) rest) stop)

-- a moment since the journal was read is one since that start
since_read : (bytes start : List ℕ) (moment whole : List Event) → IsStopOf (Read bytes ∷ moment) (Read start ∷ whole) → (bytes ≡ start) × IsStopOf moment whole
since_read bytes start moment whole (inl none) = absurd (cc none)
since_read bytes start moment whole (inr (inl torn)) = absurd torn
since_read bytes start moment whole (inr (inr (rest, same, stop))) =
    let at : bytes ≡ start = cc in
    let later : moment ≡ rest = cc in
    (at, rw later stop)

module _ (g : AirportRows) (marked : Bool) (disk : Disk) where
  pub always_good : (form : ReplyForm) (done : List Event) → IsStopped form g marked done → (bytes : List ℕ) (moment : List Event) → IsStopOf (Read bytes ∷ moment) done
      → MayBeLeft disk marked bytes → AreGood g marked disk bytes moment
  always_good form done (inl (start, stop)) bytes moment now finds =
      let at = since_read bytes start moment _ (earlier (Read bytes ∷ moment) done (reading marked start) now stop) in
      only_read g marked disk bytes finds moment (rw at.0 at.1)
  always_good form done (inr (start, next, whole, heard, is, stop)) bytes moment now finds =
      let d = day_of g marked start in
      let rest : List Event = served d is.exchanges ++ next ∷ [] in
      let all : IsStopOf (Read bytes ∷ moment) (started form.format g marked start ++ rest) = rw is.events at (earlier (Read bytes ∷ moment) done whole now stop) in
      let at = since_read bytes start moment _ all in
      let finds_start : MayBeLeft disk marked start = rw at.0 at finds in
      subst (λ (b : List ℕ). AreGood g marked disk b moment) (sym at.0)
      (started_at g marked disk start finds_start is.accepted (ready_text form.format (length d.journal)) rest (always_keeps form d 0 is.exchanges next is.replies heard) moment at.1)

-- Where the journal was on the disk.

found_left : (marked : Bool) (bytes : List ℕ) (later : Bool) (left : List ℕ) → MayBeLeft (found marked bytes) later left → (later ≡ marked) × (left ≡ bytes)
found_left marked bytes later left may = (may.0, only_text bytes left may.1)

pub is_kept : (g : AirportRows) (marked : Bool) (bytes : List ℕ) (moment : List Event) → AreGood g marked (found marked bytes) bytes moment → IsKept g marked bytes moment
is_kept g marked bytes moment good accepted later left may = elim (good later left may) [
  | inl (records, last, before) ↦
      let was = found_left marked bytes later left before in
      let as_found : IsReadAs g marked bytes (records_of (start_text marked bytes)) (accepted_in g (start_text marked bytes)) =
      record { none_refused = accepted; has_records = refl; has_updates = refl } in
      rw (records, last, append-nil, append-nil, was.0, was.1) as_found
  | inr all ↦ all
]
