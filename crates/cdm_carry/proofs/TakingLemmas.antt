-- The records that a day takes, one after another.
use Rattle.std.proofs.Common.{◌≡◌, ◌<◌, ◌+◌, ◌++◌, ◌∙◌, ℕ, subst, Bool, true, false, All, List, [], ◌∷◌, Option, None, Some, Ok, Err, refl, sym, ap, add-one, append_assoc, append-nil, drop, drop-cons, get_or, length}
use Rattle.cdm_flight.specs.Accepted.{accepted, after_one, refusal}
use Rattle.cdm_flight.specs.Journal.{AirportRows}
use Rattle.cdm_flight.specs.declared.{role.Role.Role, update.Update.Update, word.RefusalWord.RefusalWord}
use Rattle.std.proofs.lemmas.List.Elements.{All-cons, All-head, All-nil, All-push, All-tail}
use Rattle.std.specs.{Prelude.{is_none, if◌then◌else◌}, List.cons_option, Option.option_map}
use Rattle.cdm_plan.specs.Day.{DayRecord}
use Rattle.cdm_files.specs.Refused.{Spelled, updates_in}
use Rattle.cdm_carry.specs.{Carry.taken, Notices.{Numbered, after_spelled, if_taken, numbered, refused, refused_of}, Texts.window_end}
use Rattle.cdm_carry.specs.declared.notice.Notice.{Notice}

-- from a place on, the item there and the others
pub from_here : {A : Type 0} (xs : List A) (k : ℕ) (x : A) → k < length xs → x ≡ get_or xs k x → drop k xs ≡ x ∷ drop (k + 1) xs
from_here xs k x within is = drop-cons xs k x within ∙ (λ i. sym is i ∷ drop (sym (add-one k) i) xs)

-- Records.

-- what was taken so far, and what the rest will leave and give, is what all records do
pub record TakenSoFar (first : DayRecord) (records : List (Role × Update)) (day : DayRecord) (out rest : List (Role × Update)) : Type 0 where
  pub airport : day.airport ≡ first.airport
  pub journal : accepted day.airport day.journal rest ≡ accepted first.airport first.journal records
  pub given : out ++ taken day.airport day.journal rest ≡ taken first.airport first.journal records

one_more : (b : Bool) (p : Role × Update) (out later : List (Role × Update))
    → (if b then out ++ p ∷ [] else out) ++ later ≡ out ++ (if b then p ∷ later else later)
one_more true p out later = append_assoc out (p ∷ []) later
one_more false p out later = refl

-- one more record
pub taken_more : (first : DayRecord) (records : List (Role × Update)) (day next : DayRecord) (out more : List (Role × Update)) (p : Role × Update)
    (rest : List (Role × Update)) → TakenSoFar first records day out (p ∷ rest) → next ≡ record day { journal = after_one day.airport day.journal p }
    → more ≡ (if is_none (refusal day.airport day.journal p.0 p.1) then out ++ p ∷ [] else out) → TakenSoFar first records next more rest
unfolding accepted taken
taken_more first records day next out more p rest so_far is grown = record {
  airport = ap (λ (d : DayRecord). d.airport) is ∙ so_far.airport;
  journal = ap (λ (d : DayRecord). accepted d.airport d.journal rest) is ∙ so_far.journal;
  given = (λ i. grown i ++ taken (is i).airport (is i).journal rest)
      ∙ one_more (is_none (refusal day.airport day.journal p.0 p.1)) p out (taken day.airport (after_one day.airport day.journal p) rest) ∙ so_far.given;
}

-- no more records
pub taken_day : (first : DayRecord) (records : List (Role × Update)) (day : DayRecord) (out rest : List (Role × Update)) → TakenSoFar first records day out rest
    → rest ≡ [] → day ≡ record first { journal = accepted first.airport first.journal records }
unfolding accepted
taken_day first records day out rest so_far none =
    λ i. record { airport = so_far.airport i; journal = ((λ j. accepted day.airport day.journal (sym none j)) ∙ so_far.journal) i }

pub taken_all : (first : DayRecord) (records : List (Role × Update)) (day : DayRecord) (out rest : List (Role × Update)) → TakenSoFar first records day out rest
    → rest ≡ [] → out ≡ taken first.airport first.journal records
unfolding taken
taken_all first records day out rest so_far none =
    sym (append-nil out) ∙ (λ i. out ++ taken day.airport day.journal (sym none i)) ∙ so_far.given

-- The records of a feed, with their numbers.

pub record NumberedSoFar (first : DayRecord) (records : List Spelled) (day : DayRecord) (out : List Numbered) (number : ℕ) (rest : List Spelled) : Type 0 where
  pub airport : day.airport ≡ first.airport
  pub journal : accepted day.airport day.journal (updates_in rest) ≡ accepted first.airport first.journal (updates_in records)
  pub given : out ++ numbered day.airport day.journal number rest ≡ numbered first.airport first.journal 1 records

spelled_more : (g : AirportRows) (a : List Update) (s : Spelled) (rest : List Spelled)
    → accepted g (after_spelled g a s) (updates_in rest) ≡ accepted g a (updates_in (s ∷ rest))
unfolding accepted updates_in
spelled_more g a (Ok p) rest = refl
spelled_more g a (Err word) rest = refl

pub numbered_more : (first : DayRecord) (records : List Spelled) (day next : DayRecord) (out more : List Numbered) (number : ℕ) (s : Spelled) (rest : List Spelled)
    → NumberedSoFar first records day out number (s ∷ rest) → next ≡ record day { journal = after_spelled day.airport day.journal s }
    → more ≡ out ++ if_taken day.airport day.journal number s → NumberedSoFar first records next more (number + 1) rest
unfolding numbered
numbered_more first records day next out more number s rest so_far is grown = record {
  airport = ap (λ (d : DayRecord). d.airport) is ∙ so_far.airport;
  journal = ap (λ (d : DayRecord). accepted d.airport d.journal (updates_in rest)) is ∙ spelled_more day.airport day.journal s rest ∙ so_far.journal;
  given = (λ i. grown i ++ numbered (is i).airport (is i).journal (number + 1) rest)
      ∙ append_assoc out (if_taken day.airport day.journal number s) (numbered day.airport (after_spelled day.airport day.journal s) (number + 1) rest) ∙ so_far.given;
}

pub numbered_day : (first : DayRecord) (records : List Spelled) (day : DayRecord) (out : List Numbered) (number : ℕ) (rest : List Spelled)
    → NumberedSoFar first records day out number rest → rest ≡ [] → day ≡ record first { journal = accepted first.airport first.journal (updates_in records) }
unfolding accepted updates_in
numbered_day first records day out number rest so_far none =
    λ i. record { airport = so_far.airport i; journal = ((λ j. accepted day.airport day.journal (updates_in (sym none j))) ∙ so_far.journal) i }

pub numbered_all : (first : DayRecord) (records : List Spelled) (day : DayRecord) (out : List Numbered) (number : ℕ) (rest : List Spelled)
    → NumberedSoFar first records day out number rest → rest ≡ [] → out ≡ numbered first.airport first.journal 1 records
unfolding numbered
numbered_all first records day out number rest so_far none =
    sym (append-nil out) ∙ (λ i. out ++ numbered day.airport day.journal number (sym none i)) ∙ so_far.given

-- The records that the next airport refuses.

pub record RefusedSoFar (first : DayRecord) (before : List Notice) (records : List Numbered) (day : DayRecord) (out : List Notice) (rest : List Numbered) : Type 0 where
  pub airport : day.airport ≡ first.airport
  pub given : out ++ refused_of day.airport day.journal rest ≡ before ++ refused_of first.airport first.journal records

refused_next : (o : Option RefusalWord) (n : Numbered) (out later : List Notice)
    → (out ++ cons_option (option_map (refused n) o) []) ++ later ≡ out ++ cons_option (option_map (refused n) o) later
refused_next None n out later = append_assoc out [] later
refused_next (Some word) n out later = append_assoc out (refused n word ∷ []) later

pub refused_more : (first : DayRecord) (before : List Notice) (records : List Numbered) (day next : DayRecord) (out more : List Notice) (n : Numbered)
    (rest : List Numbered) → RefusedSoFar first before records day out (n ∷ rest) → next ≡ record day { journal = after_one day.airport day.journal n.1 }
    → more ≡ out ++ cons_option (option_map (refused n) (refusal day.airport day.journal n.1.0 n.1.1)) [] → RefusedSoFar first before records next more rest
unfolding refused_of
refused_more first before records day next out more n rest so_far is grown = record {
  airport = ap (λ (d : DayRecord). d.airport) is ∙ so_far.airport;
  given = (λ i. grown i ++ refused_of (is i).airport (is i).journal rest)
      ∙ refused_next (refusal day.airport day.journal n.1.0 n.1.1) n out (refused_of day.airport (after_one day.airport day.journal n.1) rest) ∙ so_far.given;
}

pub refused_all : (first : DayRecord) (before : List Notice) (records : List Numbered) (day : DayRecord) (out : List Notice) (rest : List Numbered)
    → RefusedSoFar first before records day out rest → rest ≡ [] → out ≡ before ++ refused_of first.airport first.journal records
unfolding refused_of
refused_all first before records day out rest so_far none =
    sym (append-nil out) ∙ (λ i. out ++ refused_of day.airport day.journal (sym none i)) ∙ so_far.given

-- Windows that end early.

-- what holds of all records holds of those that are accepted
one_more_taken : (P : Role × Update → Type 0) (b : Bool) (p : Role × Update) (rest : List (Role × Update)) → P p → All P rest → All P (if b then p ∷ rest else rest)
one_more_taken P true p rest one others = All-cons P p rest one others
one_more_taken P false p rest one others = others

pub all_taken : (P : Role × Update → Type 0) (g : AirportRows) (a : List Update) (records : List (Role × Update)) → All P records → All P (taken g a records)
unfolding taken
all_taken P g a [] h = All-nil P
all_taken P g a (p ∷ later) h =
    one_more_taken P (is_none (refusal g a p.0 p.1)) p (taken g (after_one g a p) later) (All-head P p later h)
    (all_taken P g (after_one g a p) later (All-tail P p later h))

pub short_taken : (g : AirportRows) (a : List Update) (carried records all : List (Role × Update)) → all ≡ taken g a records → records ≡ carried
    → All (λ q. window_end q.1 < 2880) carried → All (λ q. window_end q.1 < 2880) all
short_taken g a carried records all is same short =
    let Short : Role × Update → Type 0 = λ q. window_end q.1 < 2880 in
    subst (All Short) (sym is) (all_taken Short g a records (subst (All Short) (sym same) short))

-- one record more
pub short_more : (old new : List (Role × Update)) (p : Role × Update) → new ≡ old ++ p ∷ [] → All (λ q. window_end q.1 < 2880) old → window_end p.1 < 2880
    → All (λ q. window_end q.1 < 2880) new
short_more old new p is others one =
    subst (All (λ (q : Role × Update). window_end q.1 < 2880)) (sym is) (All-push (λ (q : Role × Update). window_end q.1 < 2880) old p others one)

pub short_numbered : (old new : List Numbered) (n : Numbered) → new ≡ old ++ n ∷ [] → All (λ q. window_end q.1.1 < 2880) old → window_end n.1.1 < 2880
    → All (λ q. window_end q.1.1 < 2880) new
short_numbered old new n is others one =
    subst (All (λ (q : Numbered). window_end q.1.1 < 2880)) (sym is) (All-push (λ (q : Numbered). window_end q.1.1 < 2880) old n others one)
