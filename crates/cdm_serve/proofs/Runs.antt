-- A run of a served day, from its start to its end.
use Rattle.std.proofs.Common.{◌≡◌, ◌+◌, ◌≤◌, ◌^◌, inl, inr, ℕ, Bool, Result, Ok, Err, IfErr, OnErr, OnOk, arith, cond, count_by, List, []}
use Rattle.std.proofs.{Common.{◌∷◌, ◌++◌, refl, sym, ◌∙◌, ap, subst, append_assoc}, lemmas.List.append-nil, lemmas.List.Sums.sum_by-append}
use Rattle.cdm_flight.specs.Journal.{AirportRows}
use Rattle.cdm_plan.specs.Day.{DayRecord}
use Rattle.cdm_port.{specs.Event.Event, specs.Event.Event.End, specs.Stop.{IsStopOf, since}, proofs.Stops.{front, longer, past, since_is}}
use Rattle.cdm_serve.specs.{Disk.found, Promises.{AtEachMoment, IsKept}, Served.{IsServed, IsStopped, day_of, reading, served, started}}
use Rattle.cdm_serve.specs.Faults.{IsServeFault, is_line}
use Rattle.cdm_serve.specs.inner.Steps.{AreTooMany, IsLinesFault, IsStartFault, ServeStops, Serves, StartStops, Starts}
use Rattle.cdm_serve.specs.declared.form.ReplyForm.{ReplyForm}
use Rattle.cdm_serve.{specs.declared.fault.ServeError.ServeError, proofs.Begun.{always_good, is_kept}, proofs.Ran.fault_weaker}

-- what holds where a run is over or stopped
pub record Outcome (form : ReplyForm) (g : AirportRows) (marked : Bool) (old new : List Event) : Type 0 where
  pub log : new ≡ old ++ since old new
  pub stopped : IsStopped form g marked (since old new)
  pub all_kept : AtEachMoment (since old new) (IsKept g marked)

module _ (form : ReplyForm) (g : AirportRows) (marked : Bool) where
  outcome : (old new done : List Event) → new ≡ old ++ done → IsStopped form g marked done → Outcome form g marked old new
  outcome old new done is stop =
      let stopped : IsStopped form g marked (since old new) = rw (since_is old new done is) stop in
      record {
        log = is ∙ ap (λ (l : List Event). old ++ l) (sym (since_is old new done is));
        stopped = stopped;
        all_kept = λ bytes moment now.
            is_kept g marked bytes moment (always_good g marked (found marked bytes) form (since old new) stopped bytes moment now (refl, inl (([], sym (append-nil bytes)), ([], sym (append-nil bytes)))));
      }

  -- it stopped while it was being started
  pub unstarted : (old new : List Event) → StartStops form.format g marked old new → Outcome form g marked old new
  unstarted old new (bytes, inl (done, stop, is)) = outcome old new done is (inl (bytes, stop))
  unstarted old new (bytes, inr (accepted, (done, stop, is))) =
      let before : List Event = started form.format g marked bytes in
      let lines : List Event = served (day_of g marked bytes) [] ++ End ∷ [] in
      let all : IsServed form g marked bytes End (before ++ lines) = record { accepted = accepted; exchanges = []; replies = tt; events = refl } in
      outcome old new done is (inr (bytes, End, before ++ lines, tt, all, longer done before lines stop))

  module _ (d : DayRecord) (old mid new : List Event) (start : Starts form.format g marked old mid d) where
    abbrev bytes : List ℕ
    bytes = start.bytes

    abbrev before : List Event
    before = started form.format g marked bytes

    behind_start : (done : List Event) → new ≡ mid ++ done → new ≡ old ++ (before ++ done)
    behind_start done is = is ∙ ap (λ (l : List Event). l ++ done) start.events ∙ append_assoc old before done

    -- it stopped while lines were served
    unserved : ServeStops form d 0 mid new → Outcome form g marked old new
    unserved stops =
        let at : ServeStops form (day_of g marked bytes) 0 mid new = rw start.day at stops in
        let lines : List Event = served (day_of g marked bytes) at.0 ++ at.1 ∷ [] in
        let all : IsServed form g marked bytes at.1 (before ++ lines) = record { accepted = start.accepted; exchanges = at.0; replies = at.2; events = refl } in
        outcome old new (before ++ at.4.0) (behind_start at.4.0 at.4.2) (inr (bytes, at.1, before ++ lines, at.3, all, past before at.4.0 lines at.4.1))

    -- it came to the end of the input
    to_the_end : Serves form d 0 mid new → Outcome form g marked old new × ((bytes : List ℕ) × IsServed form g marked bytes End (since old new))
    to_the_end serves =
        let at : Serves form (day_of g marked bytes) 0 mid new = rw start.day at serves in
        let lines : List Event = served (day_of g marked bytes) at.0 ++ End ∷ [] in
        let all : IsServed form g marked bytes End (before ++ lines) = record { accepted = start.accepted; exchanges = at.0; replies = at.1; events = refl } in
        let stop = subst (IsStopOf (before ++ lines)) (append-nil (before ++ lines)) (front (before ++ lines) []) in
        let whole : new ≡ old ++ (before ++ lines) = behind_start lines at.2 in (
          outcome old new (before ++ lines) whole (inr (bytes, End, before ++ lines, tt, all, stop)),
          (bytes, subst (IsServed form g marked bytes End) (sym (since_is old new (before ++ lines) whole)) all),
        )

    -- Where serve ends.

    pub finished : {E : Type 0} (r : Result (Unit {0}) E) → OnOk r (Serves form d 0 mid new) → OnErr r (ServeStops form d 0 mid new) → Outcome form g marked old new
    finished (Ok x) serves stops = (to_the_end serves).0
    finished (Err e) serves stops = unserved stops

    pub finished_served : {E : Type 0} (r : Result (Unit {0}) E) → OnOk r (Serves form d 0 mid new) → OnOk r ((bytes : List ℕ) × IsServed form g marked bytes End (since old new))
    finished_served (Ok x) serves = (to_the_end serves).1
    finished_served (Err e) serves = tt

    -- Faults.

    many : AreTooMany 0 mid new → 2 ^ 32 ≤ count_by is_line (since old new)
    many (done, was, most) =
        let sums : count_by is_line (before ++ done) ≡ count_by is_line before + count_by is_line done = sum_by-append (λ e. cond (is_line e) 1 0) before done in
        let enough : 2 ^ 32 ≤ count_by is_line (before ++ done) = omega (arith, sums, most) in
        subst (λ (l : List Event). 2 ^ 32 ≤ count_by is_line l) (sym (since_is old new (before ++ done) (behind_start done was))) enough

    pub finished_fault : (r : Result (Unit {0}) ServeError) → IfErr r (IsLinesFault 0 mid new) → IfErr r (IsServeFault g marked (since old new))
    finished_fault (Ok x) is = tt
    finished_fault (Err e) is = fault_weaker _ _ _ _ _ _ e (λ port. port) (λ number word none. absurd none) many is

  pub start_fault : (old new : List Event) (e : ServeError) → IsStartFault g marked old new e → IsServeFault g marked (since old new) e
  start_fault old new e =
      fault_weaker _ _ _ _ _ _ e (λ port. port) (λ number word was. (was.0, was.1, since_is old new (reading marked was.0) was.2, was.3)) (λ none. absurd none)
