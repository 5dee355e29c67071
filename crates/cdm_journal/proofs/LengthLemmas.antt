-- How long a journal's lines are.
use Rattle.std.proofs.Common.{◌≡◌, ◌<◌, ◌≤◌, ◌+◌, ◌*◌, ◌==◌, ℕ, true, List, [], ◌∷◌, length, Option, Some, None, Result, refl, arith, inl}
use Rattle.std.proofs.{Common.{inr, Bool, Ok, Err}, lemmas.Grind.common_steps, lemmas.Bool.cases_Bool, lemmas.List.length-append}
use Rattle.std.proofs.lemmas.List.{Concat.length-flat_map, Elements.All-weaker, Sums.sum_by-le}
use Rattle.std.specs.Prelude.{is_ok, is_some, ok_or}
use Rattle.csv.specs.Writing.{default_writer, escaped, field_text, fields_text, is_blank, needs_quotes}
use Rattle.cdm_time.specs.{declared.calendar.CalendarDate.CalendarDate, Times.{is_time_text, minute_up_to}}
use Rattle.cdm_flight.specs.{Journal.AirportRows, declared.update.Update.Update, declared.word.RefusalWord.RefusalWord, Names.is_name}
use Rattle.cdm_kinds.specs.{Kinds.{kind_name, kind_named}, declared.kind.Kind.Kind}
use Rattle.cdm_kinds.specs.declared.kind.Kind.TheVariants as kind
use Rattle.cdm_files.specs.Fields.{and_then, both, ctot_field, group_field, ice_field, name_field, number_field, of_four, of_three}
use Rattle.cdm_files.specs.{Fields.{place_field, refused_by_word, tolerance_fields}, Kinds.{update_by, update_of}, Parsing.parse_of}
use Rattle.cdm_files.specs.Roles.{role_of}
use Rattle.cdm_journal.specs.{Journal.{journal_line, journal_text}, Laws.Make}
use Rattle.cdm_journal.proofs.RecordLemmas.{Spells, each-taken, of-kind, of-role, both-spelled}
use Rattle.cdm_flight.specs.declared.word.RefusalWord.TheVariants as word

-- Fields.

then-ok : {A X : Type 0} (r : Result A RefusalWord) (more : A → Result X RefusalWord) → is_ok (and_then r more) ≡ true → is_ok r ≡ true
then-ok (Ok a) more is = refl
then-ok (Err word) more is = cc

both-ok : {A B : Type 0} (a : Result A RefusalWord) (b : Result B RefusalWord) → is_ok (both a b) ≡ true → (is_ok a ≡ true) × (is_ok b ≡ true)
unfolding both
both-ok (Ok a) (Ok b) is = (refl, refl)
both-ok (Err word.Text) b is = cc
both-ok a (Err word.Text) is = cc
both-ok a b is = cc

name-length : (most : ℕ) (text : List ℕ) → is_ok (name_field (is_name most) text) ≡ true → length text ≤ most
unfolding name_field
name-length most text is = grind (arith, common_steps)

number-length : (in_range : ℕ → Bool) (text : List ℕ) → is_ok (number_field in_range text) ≡ true → length text ≤ 4
unfolding number_field
number-length in_range text is = grind (arith, common_steps)

minute-length : (last : ℕ) (day : CalendarDate) (text : List ℕ) → is_ok (refused_by_word (minute_up_to last day text)) ≡ true → length text ≤ 17
unfolding minute_up_to is_time_text
minute-length last day text is = grind (arith, common_steps)

ctot-length : (day : CalendarDate) (text : List ℕ) → is_ok (ctot_field day text) ≡ true → length text ≤ 17
unfolding ctot_field
ctot-length day text is = grind (arith, common_steps, minute-length, then-ok)

place-length : (text : List ℕ) → is_ok (place_field text) ≡ true → length text ≤ 5
unfolding place_field
place-length text is = grind (arith, common_steps, name-length, then-ok)

group-length : (text : List ℕ) → is_ok (group_field text) ≡ true → length text ≤ 1
group-length text is = grind (arith, common_steps)

ice-length : (kind minutes : List ℕ) → is_ok (ice_field kind minutes) ≡ true → length kind + length minutes ≤ 10
unfolding ice_field
ice-length kind minutes is = grind (arith, common_steps, number-length, then-ok)

tolerance-length : (before after : List ℕ) → is_ok (tolerance_fields before after) ≡ true → length before + length after ≤ 8
unfolding tolerance_fields
tolerance-length before after is = grind (arith, common_steps, number-length, then-ok, both-ok)

-- Lines.

-- how many bytes fields take at most where csv writes them, each with a comma before it, quotes round it and its own quotes doubled
abbrev room : List (List ℕ) → ℕ
room [] = 0
room (x ∷ fields) = 3 + 2 * length x + room fields

-- RATE takes the most
kind-room : (day : CalendarDate) (kind : Kind) (fields : List (List ℕ)) → is_ok (update_by day kind fields) ≡ true → room fields ≤ 94
unfolding of_three of_four
kind-room day kind.Rate (a ∷ b ∷ c ∷ d ∷ e ∷ fields) is = cc
kind-room day _ (a ∷ b ∷ c ∷ d ∷ e ∷ fields) is = cc
kind-room day kind.Rate _ is = grind (arith, then-ok, both-ok, name-length, number-length, minute-length)
kind-room day _ _ is =
    grind (arith, then-ok, both-ok, name-length, number-length, minute-length, ctot-length, place-length, group-length, ice-length, tolerance-length)

-- a field's length where csv writes it
abbrev wide : List ℕ → ℕ
wide x = length (field_text default_writer x)

escaped-length : (x : List ℕ) → length (escaped default_writer x) ≤ 2 * length x
unfolding escaped
escaped-length [] = omega arith
escaped-length (b ∷ bs) = elim (cases_Bool (b == 34)) [ inl is ↦ rw is (omega (arith, escaped-length bs)) | inr other ↦ rw other (omega (arith, escaped-length bs)) ]

wide-most : (x : List ℕ) → wide x ≤ 2 * length x + 2
wide-most x = elim (cases_Bool (needs_quotes default_writer x)) [
  | inl needs ↦ rw needs (simp length-append (omega (arith, escaped-length x)))
  | inr plain ↦ rw plain (omega arith)
]

fields-length : (fields : List (List ℕ)) → length (fields_text default_writer fields) ≤ room fields
unfolding fields_text
fields-length [] = omega arith
fields-length (x ∷ fields) = simp length-append (omega (arith, wide-most x, fields-length fields))

role-wide : (x : List ℕ) → is_some (role_of x) ≡ true → wide x ≤ 3
role-wide x = of-role (λ y. wide y ≤ 3) x (omega arith) (omega arith) (omega arith) (omega arith) (omega arith)

name-wide : (kind : Kind) → wide (kind_name kind) ≤ 5
name-wide kind.Flt = omega arith
name-wide _ = omega arith

named-room : (day : CalendarDate) (found : Option Kind) (fields : List (List ℕ)) → is_ok (and_then (ok_or found word.Kind) (λ kind. update_by day kind fields)) ≡ true
    → (is_some found ≡ true) × (room fields ≤ 94)
named-room day (Some kind) fields is = (refl, kind-room day kind fields is)
named-room day None fields is = cc

-- a record that spells an update has a line of at most 104 bytes
line-short : (day : CalendarDate) (fields : List (List ℕ)) → Spells day fields → length (journal_line fields) ≤ 104
unfolding parse_of update_of journal_line is_blank fields_text
line-short day (x ∷ y ∷ fields) is =
    let spelled = both-spelled (role_of x) _ is in
    let made = named-room day (kind_named y) fields spelled.1 in
    simp length-append (omega (arith, role-wide x spelled.0, of-kind (λ z. wide z ≤ 5) y name-wide made.0, made.1, fields-length fields))
line-short day _ is = cc

pub is-short : (g : AirportRows) (records : List (List (List ℕ))) (updates : List Update) → Make g records updates → length (journal_text records) < 2097152
unfolding journal_text
is-short g records updates make =
    let taken = each-taken g [] 1 records make.none_refused (omega arith) in
    let short = sum_by-le (λ fields. length (journal_line fields)) 104 records (All-weaker (Spells g.day) _ (line-short g.day) records taken.0) in
    omega (arith, length-flat_map journal_line records, short, taken.1)
