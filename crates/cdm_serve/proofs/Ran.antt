-- A day that is served, line by line and to the end of the input.
use Rattle.std.proofs.Common.{◌≡◌, inl, inr, ℕ, ◌+◌, ◌≤◌, ◌^◌, Option, None, Some, cond, count_by, arith, Result, Ok, Err, OnErr, List, []}
use Rattle.std.proofs.{Common.{◌∷◌, ◌++◌, refl, sym, ◌∙◌, ap, append_assoc}, lemmas.List.append-nil, lemmas.List.Sums.sum_by-append}
use Rattle.std.specs.Prelude.{⊤}
use Rattle.cdm_journal.specs.Lines.{LineRecord, LineRecord.{Blank, One, Several}}
use Rattle.cdm_plan.specs.Day.{DayRecord}
use Rattle.cdm_flight.specs.declared.word.RefusalWord.{RefusalWord}
use Rattle.cdm_port.specs.{Event.Event, Event.Event.{Broken, End, Line}, Stop.{IsStopOf, Stops}}
use Rattle.cdm_port.proofs.Stops.{front, longer, past}
use Rattle.cdm_serve.specs.{Faults.{IsFaultOf, is_line}, Requests.request_of}
use Rattle.cdm_serve.specs.Served.{AreReplies, Exchange, IsExchange, IsReplyTo, answered, line_of, numbered, said, served, told_of}
use Rattle.cdm_serve.specs.Taken.{TakenRecord, after, taken}
use Rattle.cdm_serve.specs.inner.Steps.{AreTooMany, HearsInVain, HearsLine, IsAnswerFault, IsLinesFault, IsPortFault, ServeStops, Serves}
use Rattle.cdm_serve.specs.declared.fault.ServeError.{ServeError}
use Rattle.cdm_files.specs.declared.common_fault.CommonFault.TheVariants as common
use Rattle.cdm_serve.specs.declared.fault.ServeError.TheVariants as error
use Rattle.cdm_serve.specs.declared.form.ReplyForm.{ReplyForm}

-- How many lines were heard.

told_none : (last : Option TakenRecord) (reply : List ℕ) → count_by is_line (told_of last reply) ≡ 0
told_none None reply = refl
told_none (Some one) reply = refl

answered_none : (d : DayRecord) (line : LineRecord) (reply : List ℕ) → count_by is_line (answered d line reply) ≡ 0
answered_none d Blank reply = refl
answered_none d (One fields) reply = told_none (taken d (One fields)) reply
answered_none d Several reply = refl

said_one : (heard : Option (List ℕ)) (events : List Event) → count_by is_line (said heard ∷ events) ≡ 1 + count_by is_line events
said_one None events = sum_by-append (λ e. cond (is_line e) 1 0) (Broken ∷ []) events
said_one (Some line) events = sum_by-append (λ e. cond (is_line e) 1 0) (Line line ∷ []) events

numbered_few : (number : ℕ) (line : LineRecord) → numbered number line ≤ number + 1
numbered_few number Blank = omega arith
numbered_few number line = omega arith

-- Some lines were served: whatever is served of the day that is left now is served of the first behind them.
pub record Ran (form : ReplyForm) (d : DayRecord) (number : ℕ) (today : DayRecord) (count turns : ℕ) (old new : List Event) : Type 0 where
  pub before : List Event
  pub events : new ≡ old ++ before
  pub heard : count_by is_line before ≡ turns
  pub few : count ≤ number + turns
  pub goes : (xs : List Exchange) → AreReplies form today count xs → (all : List Exchange) × AreReplies form d number all × (served d all ≡ before ++ served today xs)

-- none were yet
pub none_ran : (form : ReplyForm) (d : DayRecord) (number : ℕ) (old : List Event) → Ran form d number d number 0 old old
none_ran form d number old = record { before = []; events = sym (append-nil old); heard = refl; few = omega arith; goes = λ xs are. (xs, are, refl) }

module _ (form : ReplyForm) (d : DayRecord) (number : ℕ) (today : DayRecord) (count turns : ℕ) (old so_far : List Event) (ran : Ran form d number today count turns old so_far) where
  after_line : (new : List Event) (line : LineRecord) (hears : HearsLine so_far new line) → new ≡ old ++ (ran.before ++ said hears.0 ∷ [])
  after_line new line hears = rw (hears.3, ran.events) (append_assoc old ran.before (said hears.0 ∷ []))

  -- one line more, and its answer in full or in part
  module _ (read : List Event) (line : LineRecord) (text : List ℕ) (hears : HearsLine so_far read line)
      (is : IsReplyTo form today (numbered count line) (request_of today.airport.day line) text) where
    abbrev exchange : Exchange
    exchange = record { heard = hears.0; reply = text }

    abbrev one : List Event
    one = said hears.0 ∷ answered today line text

    is_next : IsExchange form today count exchange
    is_next = (hears.1, rw hears.2 at is)

    heard_then : (new done : List Event) → new ≡ read ++ done → new ≡ old ++ (ran.before ++ said hears.0 ∷ done)
    heard_then new done was = was ∙ rw (hears.3, ran.events) (simp append_assoc)

    pub goes_on : (next : DayRecord) (more : ℕ) (new : List Event) → new ≡ read ++ answered today line text → next ≡ after today line → more ≡ numbered count line
        → Ran form d number next more (turns + 1) old new
    goes_on next more new was next_day next_number = record {
      before = ran.before ++ one;
      events = heard_then new (answered today line text) was;
      heard =
          let sums : count_by is_line (ran.before ++ one) ≡ count_by is_line ran.before + count_by is_line one = sum_by-append (λ e. cond (is_line e) 1 0) ran.before one in
          let so_many = ran.heard in
          omega (arith, sums, so_many, said_one hears.0 (answered today line text), answered_none today line text);
      few = let so_few = ran.few in omega (arith, so_few, next_number, numbered_few count line);
      goes = λ xs are.
          let all = ran.goes (exchange ∷ xs) (is_next, rw (next_day, next_number, hears.2) at are) in
          (all.0, all.1, all.2 ∙ rw (next_day, hears.2) (sym (append_assoc ran.before (said hears.0 ∷ answered today (line_of exchange) text) (served (after today (line_of exchange)) xs))));
    }

    -- it stopped in the midst of an answer
    pub midst : (new : List Event) → Stops read (answered today line text) new → ServeStops form d number old new
    midst new stop =
        let all = ran.goes (exchange ∷ []) (is_next, tt) in
        let whole : served d all.0 ≡ ran.before ++ one = all.2 ∙ rw (append-nil, hears.2) refl in
        let at : IsStopOf (ran.before ++ said hears.0 ∷ stop.0) (ran.before ++ one) = past ran.before _ one (past (said hears.0 ∷ []) stop.0 _ stop.1) in
        (all.0, End, all.1, tt, (ran.before ++ said hears.0 ∷ stop.0, longer _ _ (End ∷ []) (rw whole at), heard_then new stop.0 stop.2))

  -- all that was served until now
  abbrev now : (all : List Exchange) × AreReplies form d number all × (served d all ≡ ran.before ++ [])
  now = ran.goes [] tt

  served_now : served d now.0 ≡ ran.before
  served_now = now.2 ∙ append-nil ran.before

  -- it stopped before the next line
  pub between : ServeStops form d number old so_far
  between = (now.0, End, now.1, tt, (ran.before, rw served_now (front ran.before (End ∷ [])), ran.events))

  -- it stopped behind a line, before its answer
  pub behind : (new : List Event) (line : LineRecord) → HearsLine so_far new line → ServeStops form d number old new
  behind new line hears =
      let whole : List Event = ran.before ++ said hears.0 ∷ [] in
      (now.0, said hears.0, now.1, hears.1, (whole, rw served_now (rw append-nil at (front whole [])), after_line new line hears))

  pub in_vain : (new : List Event) → HearsInVain so_far new → ServeStops form d number old new
  in_vain new (inl same) = rw same between
  in_vain new (inr (line, hears)) = behind new line hears

  -- it came to the end
  pub ended : (new : List Event) → new ≡ so_far ++ End ∷ [] → Serves form d number old new
  ended new is = (
    now.0,
    now.1,
    is ∙ ap (λ (l : List Event). l ++ End ∷ []) ran.events ∙ append_assoc old ran.before (End ∷ []) ∙ ap (λ (l : List Event). old ++ (l ++ End ∷ [])) (sym served_now),
  )

  -- there are as many lines as numbers
  pub too_many : (new : List Event) (line : LineRecord) → HearsLine so_far new line → count + 1 ≡ 2 ^ 32 → AreTooMany number old new
  too_many new line hears most =
      let sums = sum_by-append (λ e. cond (is_line e) 1 0) ran.before (said hears.0 ∷ []) in
      let so_many = ran.heard in
      let so_few = ran.few in
      (ran.before ++ said hears.0 ∷ [], after_line new line hears, omega (arith, sums, said_one hears.0 [], so_many, so_few))

  -- all turns were taken
  pub no_turn_left : 2 ^ 32 ≤ turns → AreTooMany number old so_far
  no_turn_left most = let so_many = ran.heard in (ran.before, ran.events, omega (arith, so_many))

-- Faults.

pub on_err : {T E P : Type 0} (r : Result T E) → P → OnErr r P
on_err (Ok x) p = tt
on_err (Err y) p = p

-- what may end a part may end the whole
pub fault_weaker : (port port_then : Type 0) (refused refused_then : ℕ → RefusalWord → Type 0) (many many_then : Type 0) (e : ServeError) → (port → port_then)
    → ((number : ℕ) (word : RefusalWord) → refused number word → refused_then number word) → (many → many_then) → IsFaultOf port refused many e → IsFaultOf port_then refused_then many_then e
fault_weaker port port_then refused refused_then many many_then (error.Common common.Memory) of_port of_record of_many is = tt
fault_weaker port port_then refused refused_then many many_then (error.Journal number word) of_port of_record of_many is = of_record number word is
fault_weaker port port_then refused refused_then many many_then (error.Port fault) of_port of_record of_many is = of_port is
fault_weaker port port_then refused refused_then many many_then error.TooMany of_port of_record of_many is = of_many is
fault_weaker port port_then refused refused_then many many_then (error.Common other) of_port of_record of_many is = absurd is

pub port_fault : (number : ℕ) (old new : List Event) (e : ServeError) → IsPortFault e → IsLinesFault number old new e
port_fault number old new e = fault_weaker ⊤ ⊤ (λ place word. ⊥) (λ place word. ⊥) ⊥ (AreTooMany number old new) e (λ port. port) (λ place word none. none) (λ none. absurd none)

pub answer_fault : (count number : ℕ) (old new : List Event) (e : ServeError) → IsAnswerFault count e → (count + 1 ≡ 2 ^ 32 → AreTooMany number old new) → IsLinesFault number old new e
answer_fault count number old new e is most =
    fault_weaker ⊥ ⊤ (λ place word. ⊥) (λ place word. ⊥) (count + 1 ≡ 2 ^ 32) (AreTooMany number old new) e (λ none. absurd none) (λ place word none. none) most is
