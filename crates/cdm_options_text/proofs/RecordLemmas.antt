-- The line of one record, and the record in it.
use Rattle.std.proofs.lemmas.List.Elements.{All-cons, All-nil}
use Rattle.std.proofs.Common.{All, ◌≡◌, ◌∙◌, ℕ, zero, suc, ◌+◌, ◌-◌, ◌<◌, ◌≤◌, List, [], ◌∷◌, ◌++◌, ap, length, take, refl, sym, subst, arith, slice_index}
use Rattle.std.proofs.lemmas.List.{append-nil, length-append}
use Rattle.std.proofs.Math.Seq.{take-append_seam}
use Rattle.cdm_time.specs.declared.calendar.CalendarDate.{CalendarDate}
use Rattle.cdm_flight.specs.declared.{role.Role.Role, update.Update.Update}
use Rattle.cdm_carry.specs.Texts.{feed_text, record_text, window_end}
use Rattle.cdm_flight.specs.declared.update.Update.TheVariants.{Flt, Tobt, Stand, Rwy, Ctot, Ice, Prio, Group, Off, Air, Cnl, Rate, Close, Reopen, Taxi, Clock, Tol}
use Rattle.cdm_options.specs.Tried.{EndsInTime, ends_at}

-- where a record ends is told alike
pub same_end : (u : Update) → ends_at u ≡ window_end u
same_end (Flt f p) = refl
same_end (Tobt f t) = refl
same_end (Stand f s) = refl
same_end (Rwy f r) = refl
same_end (Ctot f c) = refl
same_end (Ice f i) = refl
same_end (Prio f p) = refl
same_end (Group f w) = refl
same_end (Off f m) = refl
same_end (Air f m) = refl
same_end (Cnl f) = refl
same_end (Rate r from to cap) = refl
same_end (Close r from to) = refl
same_end (Reopen r from to) = refl
same_end (Taxi p r m) = refl
same_end (Clock m) = refl
same_end (Tol t) = refl

-- so a record that ends in time is written
pub one_ends : (p : Role × Update) → EndsInTime p.1 → All (λ (q : Role × Update). window_end q.1 < 2880) (p ∷ [])
one_ends p ends =
    All-cons (λ (q : Role × Update). window_end q.1 < 2880) p [] (subst (λ n. n < 2880) (same_end p.1) ends) (All-nil (λ (q : Role × Update). window_end q.1 < 2880))

-- a feed of one record is its line
pub one_record : (day : CalendarDate) (p : Role × Update) → feed_text day (p ∷ []) ≡ record_text day p ++ 10 ∷ []
unfolding feed_text
one_record day p = append-nil (record_text day p ++ 10 ∷ [])

-- a line ends with its last byte
last_byte : (xs : List ℕ) → slice_index (xs ++ 10 ∷ []) (length xs) ≡ 10
last_byte [] = refl
last_byte (x ∷ xs) = last_byte xs

one_less : (xs : List ℕ) → length (xs ++ 10 ∷ []) - 1 ≡ length xs
one_less xs = let long : length (xs ++ 10 ∷ []) ≡ length xs + 1 = length-append xs (10 ∷ []) in omega arith

pub end_byte : (line xs : List ℕ) (end : ℕ) → line ≡ xs ++ 10 ∷ [] → end ≡ length line - 1 → slice_index line end ≡ 10
end_byte line xs end is at =
    let place : end ≡ length xs = at ∙ ap (λ (l : List ℕ). length l - 1) is ∙ one_less xs in
    (λ i. slice_index (is i) (place i)) ∙ last_byte xs

-- and without it is the record
pub without_end : (line xs : List ℕ) (end : ℕ) → line ≡ xs ++ 10 ∷ [] → end ≡ length line - 1 → take end line ≡ xs
without_end line xs end is at =
    let place : end ≡ length xs = at ∙ ap (λ (l : List ℕ). length l - 1) is ∙ one_less xs in
    (λ i. take (place i) (is i)) ∙ take-append_seam xs (10 ∷ [])
