-- At each moment of a served day the journal has what was told.
use Rattle.std.proofs.Common.{◌≡◌, ◌==◌, inl, inr, ℕ, Bool, true, false, Option, None, Some, Ok, Err, List, [], ◌∷◌, ◌++◌, length, refl}
use Rattle.std.proofs.{Common.{sym, ◌∙◌, ap, subst, append_assoc}, lemmas.Bool.{ne_eqb, or_from}}
use Rattle.std.proofs.lemmas.List.{append-nil, append_cancel_left, drop_all, Prefix.{front_fits, front_rest}}
use Rattle.std.specs.{Prelude.{⊤, ◌≢◌}, List.AllByRecursion}
use Rattle.cdm_time.specs.declared.calendar.CalendarDate.{CalendarDate}
use Rattle.cdm_files.specs.{FeedDay.{accepted_in, refusals_in}, Parsing.parse_of, Records.records_of}
use Rattle.cdm_flight.specs.{Accepted.refusal, Journal.AirportRows, declared.role.Role.Role, declared.update.Update.Update}
use Rattle.cdm_flight.specs.declared.word.RefusalWord.{RefusalWord}
use Rattle.cdm_journal.specs.{Journal.{has_line_feed, journal_line, journal_text}, Laws.{IsTaken, Make}, Lines.{LineRecord, line_record}}
use Rattle.cdm_journal.{specs.Lines.LineRecord.{Blank, One, Several}, proofs.ReadLemmas.{adds-line, adds-update, has-updates, reads-back}}
use Rattle.cdm_journal.proofs.WholeLemmas.{is-whole, leaves-torn}
use Rattle.cdm_plan.specs.Day.{DayRecord}
use Rattle.cdm_port.specs.{Event.Event, Event.Event.{Appended, Broken, End, Flushed, Line, Replied, Synced}, Heard.IsLine}
use Rattle.cdm_port.specs.Stop.{IsPrefix, IsStopOf, IsTorn}
use Rattle.cdm_serve.specs.Disk.{Disk, IsAmong, MayBeLeft, disk_after, found}
use Rattle.cdm_serve.specs.{Promises.{HasAll, IsReadAs, rows_of, told, untold, updates_of}, Requests.request_in}
use Rattle.cdm_serve.specs.Served.{AreReplies, Exchange, IsHeard, answered, line_of, said, served, start_text, told_of}
use Rattle.cdm_serve.specs.Taken.{TakenRecord, after, day_with, record_heard, taken, taken_of, unless_refused}
use Rattle.cdm_serve.specs.declared.request.Request.{Request, TheVariants.{Ask, Nothing, Post}}
use Rattle.cdm_serve.specs.declared.form.ReplyForm.{ReplyForm}
use Rattle.cdm_serve.proofs.AnswerLemmas.{asks}

-- Taken records.

-- the record was read from a line without a line feed
abbrev pub IsOfLine : List (List ℕ) → Type 0
IsOfLine fields = (line : List ℕ) × (has_line_feed line ≡ false) × (line_record line ≡ One fields)

-- and no word refuses the update that its fields spell
abbrev pub IfTaken : DayRecord → Option TakenRecord → Type 0
IfTaken d None = ⊤
IfTaken d (Some one) = IsOfLine one.fields × IsTaken d.airport d.journal one.fields one.update

-- a request that posts an update has it of the fields
abbrev Spells : CalendarDate → List (List ℕ) → Request → Type 0
Spells day fields request = (update : Role × Update) → request ≡ Post (Ok update) → parse_of day fields ≡ Ok update

module _ (d : DayRecord) (fields : List (List ℕ)) (of_line : IsOfLine fields) where
  unless_is : (word : Option RefusalWord) (update : Role × Update) → refusal d.airport d.journal update.0 update.1 ≡ word → parse_of d.airport.day fields ≡ Ok update
      → IfTaken d (unless_refused word fields update.1)
  unless_is None update none is = (of_line, (update.0, is, none))
  unless_is (Some word) update none is = tt

  taken_of_is : (request : Request) → Spells d.airport.day fields request → IfTaken d (taken_of d fields request)
  taken_of_is Nothing is = tt
  taken_of_is (Ask asked) is = tt
  taken_of_is (Post (Err word)) is = tt
  taken_of_is (Post (Ok update)) is = unless_is (refusal d.airport d.journal update.0 update.1) update refl (is update refl)

feedless : (line : List ℕ) → AllByRecursion (λ byte. byte ≢ 10) line → has_line_feed line ≡ false
feedless [] none = refl
feedless (byte ∷ line) none = or_from (byte == 10) (has_line_feed line) (ne_eqb byte 10 none.0) (feedless line none.1)

taken_line : (d : DayRecord) (line : List ℕ) (one : LineRecord) → IsLine line → line_record line ≡ one → IfTaken d (taken d one)
taken_line d line Blank is says = tt
taken_line d line Several is says = tt
taken_line d line (One fields) is says =
    let day = d.airport.day in
    taken_of_is d fields (line, feedless line is.1, says) (request_in day fields) (asks (Spells day fields) day fields (λ asked update is. cc) (λ word update is. cc) (λ update is. cc))

taken_is : (d : DayRecord) (heard : Option (List ℕ)) → IsHeard (said heard) → IfTaken d (taken d (record_heard heard))
taken_is d None is = tt
taken_is d (Some line) is = taken_line d line (line_record line) is refl

-- Moments.

-- what holds at the start of a run, in a torn write, and at each moment later, holds at each moment
pub by_moments : (P : List Event → Type 0) (event : Event) (rest : List Event) → P [] → ((moment : List Event) → IsTorn event moment → P moment)
    → ((moment : List Event) → IsStopOf moment rest → P (event ∷ moment)) → (moment : List Event) → IsStopOf moment (event ∷ rest) → P moment
by_moments P event rest none torn later moment (inl is) = subst P (sym is) none
by_moments P event rest none torn later moment (inr (inl is)) = torn moment is
by_moments P event rest none torn later moment (inr (inr (m, is, stop))) = subst P (sym is) (later m stop)

-- Journals.

-- two texts that begin one another are the same
pub same_text : (one other : List ℕ) → IsPrefix one other → IsPrefix other one → other ≡ one
same_text one other is also =
    let none : is.0 ≡ [] = sym (front_rest other one is.0 is.1) ∙ drop_all (length one) other (front_fits one other also.0 also.1) in
    is.1 ∙ ap (λ (l : List ℕ). one ++ l) none ∙ append-nil one

pub only_text : (text left : List ℕ) → IsAmong ((text, text) ∷ []) left → left ≡ text
only_text text left (inl between) = same_text text left between.0 between.1
only_text text left (inr none) = absurd none

-- all lines of a journal are taken, whether it was served before or not
own_text : (marked : Bool) (rows : List (List (List ℕ))) → start_text marked (journal_text rows) ≡ journal_text rows
own_text true rows = is-whole rows
own_text false rows = refl

module _ (g : AirportRows) (rows : List (List (List ℕ))) (updates : List Update) (make : Make g rows updates) where
  reads_text : (marked : Bool) (left : List ℕ) → start_text marked left ≡ journal_text rows → IsReadAs g marked left rows updates
  reads_text marked left same =
      let has = has-updates g rows updates make in
      record { none_refused = ap (refusals_in g) same ∙ has.0; has_records = ap records_of same ∙ reads-back g rows updates make; has_updates = ap (accepted_in g) same ∙ has.1 }

  pub reads_own : (marked : Bool) (left : List ℕ) → left ≡ journal_text rows → IsReadAs g marked left rows updates
  reads_own marked left same = reads_text marked left (ap (start_text marked) same ∙ own_text marked rows)

-- What may be left.

abbrev pub Keeps : AirportRows → List (List (List ℕ)) → List Update → List TakenRecord → Option TakenRecord → Disk → Type 0
Keeps g rows updates records last disk = (marked : Bool) (left : List ℕ) → MayBeLeft disk marked left
    → HasAll g marked left (rows ++ rows_of records) (updates ++ updates_of records) last

abbrev settled : List (List (List ℕ)) → Disk
settled rows = found true (journal_text rows)

abbrev KeptAt : DayRecord → List (List (List ℕ)) → List Event → Type 0
KeptAt d rows m = Keeps d.airport rows d.journal (told d None m) (untold d None m) (disk_after (settled rows) m)

-- of a run that stops anywhere, where the journal has the day's records
abbrev pub AlwaysKeeps : DayRecord → List Event → Type 0
AlwaysKeeps d run = (rows : List (List (List ℕ))) → Make d.airport rows d.journal → (moment : List Event) → IsStopOf moment run → KeptAt d rows moment

all_read : (g : AirportRows) (marked : Bool) (left : List ℕ) (rows : List (List (List ℕ))) (updates : List Update) (last : Option TakenRecord)
    → IsReadAs g marked left rows updates → HasAll g marked left rows updates last
all_read g marked left rows updates None is = is
all_read g marked left rows updates (Some one) is = inl is

-- nothing is told, and nothing of the last line is written
untouched : (g : AirportRows) (rows : List (List (List ℕ))) (updates : List Update) (last : Option TakenRecord) → Make g rows updates → Keeps g rows updates [] last (settled rows)
untouched g rows updates last make =
    λ marked left may. rw (append-nil, append-nil) (all_read g marked left rows updates last (reads_own g rows updates make marked left (only_text _ left may.1)))

module _ (d : DayRecord) (one : TakenRecord) (is : IfTaken d (Some one)) (reply : List ℕ) (rest : List Event)
    (later : AlwaysKeeps (day_with d (Some one)) rest) (rows : List (List (List ℕ))) (make : Make d.airport rows d.journal) where
  abbrev next : DayRecord
  next = day_with d (Some one)

  abbrev more : List (List (List ℕ))
  more = rows ++ one.fields ∷ []

  abbrev row : List ℕ
  row = journal_line one.fields

  make_more : Make d.airport more next.journal
  make_more = adds-update d.airport rows d.journal one.fields one.update make is.1

  one_more : (marked : Bool) (left : List ℕ) → left ≡ journal_text more → IsReadAs d.airport marked left more next.journal
  one_more = reads_own d.airport more next.journal make_more

  told_now : Keeps d.airport rows d.journal (one ∷ []) None (settled more)
  told_now = λ marked left may. one_more marked left (only_text _ left may.1)

  told_then : (records : List TakenRecord) (last : Option TakenRecord) (disk : Disk) → Keeps d.airport more next.journal records last disk
      → Keeps d.airport rows d.journal (one ∷ records) last disk
  told_then records last disk keeps = λ marked left may. simp append_assoc at (keeps marked left may)

  flushed : (moment : List Event) → IsStopOf moment (Flushed ∷ rest)
      → Keeps d.airport rows d.journal (one ∷ told next None moment) (untold next None moment) (disk_after (settled more) moment)
  flushed =
      by_moments (λ m. Keeps d.airport rows d.journal (one ∷ told next None m) (untold next None m) (disk_after (settled more) m)) Flushed rest
      told_now (λ m torn. absurd torn) (λ m stop. told_then _ _ (disk_after (settled more) m) (later more make_more m stop))

  -- from here on the line is the one that isn't told yet
  abbrev After : Disk → List Event → Type 0
  After disk m = Keeps d.airport rows d.journal (told next (Some one) m) (untold next (Some one) m) (disk_after disk m)

  untold_now : After (settled more) []
  untold_now = λ marked left may. rw (append-nil, append-nil) (inr (one_more marked left (only_text _ left may.1)))

  replied : (moment : List Event) → IsStopOf moment (Replied reply ∷ Flushed ∷ rest) → After (settled more) moment
  replied =
      by_moments (After (settled more)) (Replied reply) (Flushed ∷ rest)
      untold_now (λ m torn. rw torn.2 told_now) flushed

  -- a first part of the line is left, or all of it
  part_left : (marked : Bool) (left part behind : List ℕ) → marked ≡ true → left ≡ journal_text rows ++ part → part ++ behind ≡ row
      → HasAll d.airport marked left rows d.journal (Some one)
  part_left marked left part [] is_marked same all =
      inr (one_more marked left (same ∙ ap (λ (l : List ℕ). journal_text rows ++ l) (sym (append-nil part) ∙ all) ∙ sym (adds-line rows one.fields)))
  part_left marked left part (byte ∷ behind) is_marked same all =
      inl (reads_text d.airport rows d.journal make marked left
      (rw (is_marked, same) (leaves-torn rows is.0.0 one.fields part (byte ∷ behind) is.0.1 is.0.2 all (λ none. cc none))))

  abbrev unsynced : List ℕ → Disk
  unsynced part = record {
    texts = (journal_text rows, journal_text rows ++ part) ∷ (journal_text rows, journal_text rows) ∷ [];
    written = journal_text rows ++ part;
    mark = Some true;
  }

  part_only : (part : List ℕ) → IsPrefix part row → After (unsynced part) []
  part_only part front = λ marked left may. elim may.1 [
    | inl ((x, behind), (y, before)) ↦
        let parts : part ≡ x ++ y = append_cancel_left (journal_text rows) part (x ++ y) (before ∙ rw behind (append_assoc (journal_text rows) x y)) in
        rw (append-nil, append-nil) (part_left marked left x (y ++ front.0) may.0 behind (sym (append_assoc x y front.0) ∙ ap (λ (l : List ℕ). l ++ front.0) (sym parts) ∙ sym front.1))
    | inr same ↦ untouched d.airport rows d.journal (Some one) make marked left (may.0, same)
  ]

  synced_then : (moment : List Event) → IsStopOf moment (Synced ∷ Replied reply ∷ Flushed ∷ rest) → After (unsynced row) moment
  synced_then =
      by_moments (After (unsynced row)) Synced (Replied reply ∷ Flushed ∷ rest)
      (part_only row ([], sym (append-nil row))) (λ m torn. absurd torn)
      (λ m stop. subst (λ (text : List ℕ). After (found true text) m) (adds-line rows one.fields) (replied m stop))

  pub on_taken : (moment : List Event) → IsStopOf moment (Appended row ∷ Synced ∷ Replied reply ∷ Flushed ∷ rest) → After (settled rows) moment
  on_taken =
      by_moments (After (settled rows)) (Appended row) (Synced ∷ Replied reply ∷ Flushed ∷ rest)
      (untouched d.airport rows d.journal (Some one) make) (λ m torn. rw torn.2 (part_only torn.0 torn.1)) synced_then

-- a reply that leaves the journal alone
module _ (d : DayRecord) (reply : List ℕ) (rest : List Event) (later : AlwaysKeeps d rest) (rows : List (List (List ℕ))) (make : Make d.airport rows d.journal) where
  now : Keeps d.airport rows d.journal [] None (settled rows)
  now = untouched d.airport rows d.journal None make

  pub on_other : (moment : List Event) → IsStopOf moment (Replied reply ∷ Flushed ∷ rest) → KeptAt d rows moment
  on_other =
      by_moments (KeptAt d rows) (Replied reply) (Flushed ∷ rest) now (λ m torn. rw torn.2 now)
      (by_moments (KeptAt d rows) Flushed rest now (λ m torn. absurd torn) (later rows make))

-- One line, and then the rest.

abbrev Answers : DayRecord → DayRecord → Option TakenRecord → List Event → Type 0
Answers d next last run = (rows : List (List (List ℕ))) → Make d.airport rows d.journal → (moment : List Event) → IsStopOf moment run
    → Keeps d.airport rows d.journal (told next last moment) (untold next last moment) (disk_after (settled rows) moment)

on_told : (d : DayRecord) (last : Option TakenRecord) (reply : List ℕ) (rest : List Event) → IfTaken d last → AlwaysKeeps (day_with d last) rest
    → Answers d (day_with d last) last (told_of last reply ++ rest)
on_told d None reply rest is later = on_other d reply rest later
on_told d (Some one) reply rest is later = on_taken d one is reply rest later

on_answered : (d : DayRecord) (line : LineRecord) (reply : List ℕ) (rest : List Event) → IfTaken d (taken d line) → AlwaysKeeps (after d line) rest
    → Answers d (after d line) (taken d line) (answered d line reply ++ rest)
on_answered d Blank reply rest is later = later
on_answered d Several reply rest is later = on_other d reply rest later
on_answered d (One fields) reply rest is later = on_told d (taken d (One fields)) reply rest is later

on_line : (d : DayRecord) (heard : Option (List ℕ)) (run : List Event) → Answers d (after d (record_heard heard)) (taken d (record_heard heard)) run → AlwaysKeeps d (said heard ∷ run)
on_line d None run answers rows make = by_moments (KeptAt d rows) Broken run (untouched d.airport rows d.journal None make) (λ m torn. absurd torn) (answers rows make)
on_line d (Some line) run answers rows make = by_moments (KeptAt d rows) (Line line) run (untouched d.airport rows d.journal None make) (λ m torn. absurd torn) (answers rows make)

heard_last : (d : DayRecord) (next : Event) → IsHeard next → AlwaysKeeps d (next ∷ [])
heard_last d End is = λ rows make.
    let now = untouched d.airport rows d.journal None make in
    by_moments (KeptAt d rows) End [] now (λ m torn. absurd torn) (λ m stop. rw stop now)
heard_last d Broken is = on_line d None [] (λ rows make moment stop. rw stop (untouched d.airport rows d.journal None make))
heard_last d (Line line) is = on_line d (Some line) [] (λ rows make moment stop. rw stop (untouched d.airport rows d.journal (taken d (record_heard (Some line))) make))
heard_last d event is = absurd is

pub always_keeps : (form : ReplyForm) (d : DayRecord) (number : ℕ) (xs : List Exchange) (next : Event) → AreReplies form d number xs → IsHeard next → AlwaysKeeps d (served d xs ++ next ∷ [])
always_keeps form d number [] next are is = heard_last d next is
always_keeps form d number (x ∷ xs) next are is =
    subst (λ (run : List Event). AlwaysKeeps d (said x.heard ∷ run)) (sym (append_assoc (answered d (line_of x) x.reply) (served (after d (line_of x)) xs) (next ∷ [])))
    (on_line d x.heard (answered d (line_of x) x.reply ++ (served (after d (line_of x)) xs ++ next ∷ []))
    (on_answered d (line_of x) x.reply (served (after d (line_of x)) xs ++ next ∷ []) (taken_is d x.heard are.0.0) (always_keeps form (after d (line_of x)) _ xs next are.1 is)))
