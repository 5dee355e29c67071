-- A journal is kept over any number of starts and stops.
use Rattle.std.proofs.Common.{◌≡◌, ◌⊎◌, inl, inr, ℕ, Bool, Option, None, Some, List, [], ◌∷◌, ◌++◌, refl, sym, subst}
use Rattle.std.proofs.lemmas.List.{append-nil}
use Rattle.cdm_files.specs.FeedDay.{accepted_in, refusals_in}
use Rattle.cdm_flight.specs.{Journal.AirportRows, declared.update.Update.Update}
use Rattle.cdm_port.{specs.Event.Event, specs.Event.Event.Read, specs.Stop.IsStopOf, proofs.Stops.front}
use Rattle.cdm_serve.specs.Disk.{Disk, MayBeLeft, disk_after, found}
use Rattle.cdm_serve.specs.Life.{AreAllOrOneMore, AreKept, Finds, IsLife, Start, disk_of, told_since, untold_since}
use Rattle.cdm_serve.specs.{Promises.{HasAll, untold, updates_of}, Served.{IsStopped, start_text}, Taken.TakenRecord}
use Rattle.cdm_serve.specs.declared.form.ReplyForm.{ReplyForm}
use Rattle.cdm_serve.proofs.{Begun.{IsGood, always_good}, Kept.only_text}

-- the first that happens is that the journal is read
abbrev Begins : List Event → Type 0
Begins done = (done ≡ []) ⊎ ((bytes : List ℕ) × (moment : List Event) × (done ≡ Read bytes ∷ moment))

read_first : (bytes : List ℕ) (done rest : List Event) → IsStopOf done (Read bytes ∷ rest) → Begins done
read_first bytes done rest (inl none) = inl none
read_first bytes done rest (inr (inl torn)) = absurd torn
read_first bytes done rest (inr (inr (moment, same, stop))) = inr (bytes, moment, same)

module _ (g : AirportRows) where
  begins : (form : ReplyForm) (marked : Bool) (done : List Event) → IsStopped form g marked done → Begins done
  begins form marked done (inl (bytes, stop)) = read_first bytes done _ stop
  begins form marked done (inr (bytes, next, whole, heard, is, stop)) = read_first bytes done _ (rw is.events at stop)

  -- a start refuses none of it, and these are its updates
  abbrev Has : (List Update → Type 0) → Bool → List ℕ → Type 0
  Has Are later left = (refusals_in g (start_text later left) ≡ []) × Are (accepted_in g (start_text later left))

  module _ (Are : List Update → Type 0) (disk : Disk) (before : (later : Bool) (left : List ℕ) → MayBeLeft disk later left → Has Are later left) where
    -- all that was there before, and all that this start told, and at most one more
    abbrev AreMore : Bool → List Event → List Update → Type 0
    AreMore marked done updates = (earlier : List Update) × Are earlier × AreAllOrOneMore (earlier ++ told_since g marked done) (untold_since g marked done) updates

    none_told : (later : Bool) (left : List ℕ) → MayBeLeft disk later left
        → Has (λ updates. (earlier : List Update) × Are earlier × AreAllOrOneMore (earlier ++ []) None updates) later left
    none_told later left may =
        let has = before later left may in
        (has.0, (accepted_in g (start_text later left), has.1, sym (append-nil (accepted_in g (start_text later left)))))

    all_told : (later : Bool) (left : List ℕ) (rows : List (List (List ℕ))) (all : List Update) (last : Option TakenRecord) → HasAll g later left rows all last
        → Has (AreAllOrOneMore all last) later left
    all_told later left rows all None is = (is.none_refused, is.has_updates)
    all_told later left rows all (Some one) (inl is) = (is.none_refused, inl is.has_updates)
    all_told later left rows all (Some one) (inr is) = (is.none_refused, inr is.has_updates)

    good_has : (marked : Bool) (bytes : List ℕ) (records : List TakenRecord) (last : Option TakenRecord) (later : Bool) (left : List ℕ) → MayBeLeft disk marked bytes
        → IsGood g marked disk bytes records last later left
        → Has (λ updates. (earlier : List Update) × Are earlier × AreAllOrOneMore (earlier ++ updates_of records) last updates) later left
    good_has marked bytes records last later left finds (inl (none, untold, may)) = rw (none, untold) (none_told later left may)
    good_has marked bytes records last later left finds (inr all) =
        let has = all_told later left _ _ last all in
        (has.0, (accepted_in g (start_text marked bytes), (before marked bytes finds).1, has.1))

    step : (form : ReplyForm) (marked : Bool) (done : List Event) → IsStopped form g marked done → Finds disk (record { form = form; marked = marked; done = done })
        → (later : Bool) (left : List ℕ) → MayBeLeft (disk_after disk done) later left → Has (AreMore marked done) later left
    step form marked done stopped finds later left may =
        let left_by = λ (run : List Event). MayBeLeft (disk_after disk run) later left in
        let has_by = λ (run : List Event). Has (AreMore marked run) later left in
        elim (begins form marked done stopped) [
          | inl none ↦ subst has_by (sym none) (none_told later left (subst left_by none may))
          | inr (bytes, moment, same) ↦
              let run : List Event = Read bytes ∷ moment in
              let at : MayBeLeft disk marked bytes = finds bytes moment same in
              let whole : IsStopOf run run = subst (IsStopOf run) (append-nil run) (front run []) in
              let good = always_good g marked disk form run (subst (IsStopped form g marked) same stopped) bytes moment whole at later left (subst left_by same may) in
              subst has_by (sym same) (good_has marked bytes _ _ later left at good)
        ]

  pub life_is_kept : (marked : Bool) (bytes : List ℕ) (starts : List Start) → refusals_in g (start_text marked bytes) ≡ [] → IsLife g (found marked bytes) starts
      → (later : Bool) (left : List ℕ) → MayBeLeft (disk_of (found marked bytes) starts) later left
      → Has (AreKept g (accepted_in g (start_text marked bytes)) starts) later left
  life_is_kept marked bytes [] accepted life later left may =
      let same = only_text bytes left may.1 in
      rw (may.0, same) (accepted, refl)
  life_is_kept marked bytes (start ∷ starts) accepted life later left may =
      step (AreKept g (accepted_in g (start_text marked bytes)) starts) (disk_of (found marked bytes) starts)
      (life_is_kept marked bytes starts accepted life.0) start.form start.marked start.done life.1 life.2 later left may
