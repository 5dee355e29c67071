-- What is told of the records of a feed, one after the other.
use Rattle.std.proofs.Common.{◌≡◌, ◌≤◌, ◌+◌, ◌∙◌, ℕ, List, [], ◌∷◌, ◌++◌, Option, None, Some, Ok, Err, refl, sym, ap, subst, length, map, arith}
use Rattle.std.proofs.{Common.{append_assoc, append-nil, length-append, if◌then◌else◌}, lemmas.List.length-map}
use Rattle.std.specs.Prelude.{is_none}
use Rattle.cdm_flight.specs.{Accepted.{accepted, after_one, refusal}, Journal.AirportRows}
use Rattle.cdm_flight.specs.declared.{update.Update.Update, word.RefusalWord.RefusalWord}
use Rattle.cdm_plan.specs.Day.{DayRecord}
use Rattle.cdm_desk.specs.Replies.{day_after}
use Rattle.cdm_kinds.specs.declared.format.Format.{Format}
use Rattle.cdm_files.specs.{FeedDay.{accepted_in, day_in, refusals_in, spelled_in}, Parsing.parse_of, Records.records_of}
use Rattle.cdm_files.specs.Refused.{Spelled, if_refused, refused_in, updates_in}
use Rattle.cdm_trace.specs.Traces.{IsPieceFrom, IsTold}

-- Each record of a feed is accepted or refused.

one-more : (o : Option RefusalWord) (n : ℕ) (a : List Update) (u : Update)
    → length (if_refused n o) + length (if is_none o then a ++ u ∷ [] else a) ≡ length a + 1
one-more None n a u = omega (arith, length-append a (u ∷ []))
one-more (Some word) n a u = omega arith

all-counted : (g : AirportRows) (a : List Update) (n : ℕ) (parsed : List Spelled)
    → length (refused_in g a n parsed) + length (accepted g a (updates_in parsed)) ≡ length parsed + length a
unfolding updates_in accepted refused_in
all-counted g a n [] = refl
all-counted g a n (Err word ∷ later) = omega (arith, all-counted g a (n + 1) later)
all-counted g a n (Ok p ∷ later) =
    let o = refusal g a p.0 p.1 in
    omega (arith, all-counted g (after_one g a p) (n + 1) later, one-more o n a p.1, length-append (if_refused n o) (refused_in g (after_one g a p) (n + 1) later))

-- The records of a feed, one after the other.

-- a record leaves the airport as it is
same_airport : (s : DayRecord) (spelled : Spelled) → (day_after s spelled).airport ≡ s.airport
same_airport s (Ok u) = refl
same_airport s (Err word) = refl

-- a record, and then those after it
record_more : (g : AirportRows) (s : DayRecord) (spelled : Spelled) (later : List Spelled) → s.airport ≡ g
    → accepted g s.journal (updates_in (spelled ∷ later)) ≡ accepted g (day_after s spelled).journal (updates_in later)
unfolding accepted updates_in
record_more g s (Ok u) later is = λ i. accepted g (after_one (sym is i) s.journal u) (updates_in later)
record_more g s (Err word) later is = refl

abbrev pub first_day : AirportRows → DayRecord
first_day g = record { airport = g; journal = [] }

module _ (from : ℕ) (format : Format) (asked : Option (List ℕ)) (g : AirportRows) (feed : List ℕ) where
  -- the text tells of all records of the feed
  abbrev pub TellsAll : List ℕ → Type 0
  TellsAll text = IsTold from format asked (first_day g) 1 (records_of feed) text

  -- after so many records of a feed, with these left, the text tells of those before them
  pub record Tells (s : DayRecord) (number : ℕ) (left : List (List (List ℕ))) (text : List ℕ) : Type 0 where
    pub airport : s.airport ≡ g
    pub journal : accepted g s.journal (updates_in (map (parse_of g.day) left)) ≡ accepted_in g feed
    pub told : (later : List ℕ) → IsTold from format asked s (number + 1) left later → TellsAll (text ++ later)
    pub all : number + length left ≡ length (records_of feed)
    pub count : number + length left ≤ length feed

  -- before the first record
  pub tells_first : (s : DayRecord) (left : List (List (List ℕ))) (text : List ℕ) → s ≡ first_day g → left ≡ records_of feed
      → length left ≤ length feed → text ≡ [] → Tells s 0 left text
  unfolding accepted_in
  tells_first s left text is all few none = record {
    airport = ap (λ (d : DayRecord). d.airport) is;
    journal = λ i. accepted g (is i).journal (updates_in (map (parse_of g.day) (all i)));
    all = omega (arith, ap length all);
    told = λ later h.
        let at : TellsAll later =
        subst (λ (rs : List (List (List ℕ))). IsTold from format asked (first_day g) 1 rs later) all
        (subst (λ (d : DayRecord). IsTold from format asked d 1 left later) is h) in
        subst (λ (t : List ℕ). TellsAll (t ++ later)) (sym none) at;
    count = omega (arith, few);
  }

  -- a record more: the day after it, and what is told of it
  pub tells_next : (s next : DayRecord) (number : ℕ) (fields : List (List ℕ)) (old new : List (List (List ℕ))) (text piece more : List ℕ)
      → Tells s number old text → old ≡ fields ∷ new → IsPieceFrom from format asked s (number + 1) fields piece
      → next ≡ day_after s (parse_of s.airport.day fields) → more ≡ text ++ piece → Tells next (number + 1) new more
  tells_next s next number fields old new text piece more t split is after wrote = record {
    airport = ap (λ (d : DayRecord). d.airport) after ∙ same_airport s (parse_of s.airport.day fields) ∙ t.airport;
    journal =
        let f = parse_of g.day in
        (λ i. accepted g (after i).journal (updates_in (map f new)))
        ∙ sym (record_more g s (parse_of s.airport.day fields) (map f new) t.airport)
        ∙ (λ i. accepted g s.journal (updates_in (parse_of (t.airport i).day fields ∷ map f new)))
        ∙ (λ i. accepted g s.journal (updates_in (map f (sym split i))))
        ∙ t.journal;
    all = omega (arith, t.all, ap length split);
    told = λ later h.
        let rest : IsTold from format asked (day_after s (parse_of s.airport.day fields)) (number + 1 + 1) new later =
        subst (λ (d : DayRecord). IsTold from format asked d (number + 1 + 1) new later) after h in
        let whole : IsTold from format asked s (number + 1) (fields ∷ new) (piece ++ later) = (piece, later, is, rest, refl) in
        let at : IsTold from format asked s (number + 1) old (piece ++ later) =
        subst (λ (rs : List (List (List ℕ))). IsTold from format asked s (number + 1) rs (piece ++ later)) (sym split) whole in
        subst TellsAll (sym (append_assoc text piece later) ∙ ap (λ (l : List ℕ). l ++ later) (sym wrote)) (t.told (piece ++ later) at);
    count = omega (arith, t.count, ap length split);
  }

  -- behind the last record
  pub all_told : (s : DayRecord) (number : ℕ) (left : List (List (List ℕ))) (text : List ℕ) → Tells s number left text → left ≡ [] → TellsAll text
  all_told s number left text t none =
      let nothing : IsTold from format asked s (number + 1) left [] = subst (λ (rs : List (List (List ℕ))). IsTold from format asked s (number + 1) rs []) (sym none) refl in
      subst TellsAll (append-nil text) (t.told [] nothing)

  pub whole_day : (s : DayRecord) (number : ℕ) (left : List (List (List ℕ))) (text : List ℕ) → Tells s number left text → left ≡ [] → s ≡ day_in g feed
  unfolding accepted updates_in
  whole_day s number left text t none =
      let journal : s.journal ≡ accepted_in g feed = (λ i. accepted g s.journal (updates_in (map (parse_of g.day) (sym none i)))) ∙ t.journal in
      λ i. record { airport = t.airport i; journal = journal i }

  -- those that were not accepted were refused
  pub all_refused : (s desk state : DayRecord) (number accepted : ℕ) (left : List (List (List ℕ))) (text : List ℕ) → Tells s number left text → left ≡ []
      → desk ≡ s → state ≡ desk → accepted ≡ length state.journal → length (refusals_in g feed) + accepted ≡ number
  unfolding accepted_in refusals_in
  all_refused s desk state number accepted left text t none is same count =
      let journal : length state.journal ≡ length (accepted_in g feed) =
      ap (λ (d : DayRecord). length d.journal) (same ∙ is ∙ whole_day s number left text t none) in
      omega (arith, all-counted g [] 1 (spelled_in g feed), length-map (records_of feed) (parse_of g.day), t.all, ap length none, journal, count)
