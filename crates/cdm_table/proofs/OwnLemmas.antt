-- A row under a scenario's name is the name, and then the row under none.
use Rattle.cdm_table.proofs.Words.{◌≡◌, ◌∙◌, ◌++◌, ◌==◌, ◌||◌, ◌&&◌, ◌+◌, ℕ, Bool, true, false, List, [], ◌∷◌, Some, refl, ap, append_assoc}
use Rattle.cdm_table.proofs.Words.{map, take, cons_option, list_all, list_any, nat_le, slice_get, and_parts, flat_map-append, map-append}
use Rattle.cdm_table.proofs.Words.{default_writer, fields_text, is_blank, needs_byte, row_text, CalendarDate, is_letter_or_digit, take-next}
use Rattle.cdm_csv.specs.Rows.{csv_text}
use Rattle.cdm_table.{proofs.Words.{columns, field, Row}, specs.Rows.flight_row}
use Rattle.std.proofs.{Common.{sym, inl, inr, length}, lemmas.Bool.{cases_Bool, false≢true}, lemmas.Bool.Decides.Decides-eqb}
use Rattle.std.proofs.lemmas.List.{append-nil}
use Rattle.cdm_scenario.specs.Names.{is_scenario_name}

-- Names need no quotes.

abbrev is_name_byte : ℕ → Bool
is_name_byte b = is_letter_or_digit b || (b == 45)

-- a byte that no name has is another one than a name's
other_byte : (b c : ℕ) → is_name_byte b ≡ true → is_name_byte c ≡ false → (b == c) ≡ false
other_byte b c is none = elim (cases_Bool (b == c)) [
  | inl same ↦ (let e : b ≡ c = (Decides-eqb b c).0 same in absurd (false≢true (sym none ∙ (ap is_name_byte (sym e) ∙ is))))
  | inr other ↦ other
]

plain_byte : (b : ℕ) → is_name_byte b ≡ true → needs_byte default_writer b ≡ false
plain_byte b is =
    rw (other_byte b 44 is refl, other_byte b 34 is refl, other_byte b 13 is refl, other_byte b 10 is refl) refl

plain_bytes : (name : List ℕ) → list_all is_name_byte name ≡ true → list_any (needs_byte default_writer) name ≡ false
plain_bytes [] all = refl
plain_bytes (b ∷ rest) all =
    let parts = and_parts (is_name_byte b) (list_all is_name_byte rest) all in
    rw (plain_byte b parts.0) (plain_bytes rest parts.1)

plain_name : (name : List ℕ) → is_scenario_name name ≡ true → list_any (needs_byte default_writer) name ≡ false
plain_name name is =
    plain_bytes name (and_parts (nat_le 1 (length name) && nat_le (length name) 16) (list_all (λ byte. is_letter_or_digit byte || (byte == 45)) name) is).1

-- a row of two fields or more under a name is the name, and then the row under none
named_row : (name field : List ℕ) (fields : List (List ℕ)) → is_scenario_name name ≡ true
    → row_text default_writer (name ∷ field ∷ fields) ≡ name ++ row_text default_writer ([] ∷ field ∷ fields)
unfolding fields_text is_blank
named_row name field fields is =
    let rest = fields_text default_writer (field ∷ fields) in
    rw (plain_name name is) (append_assoc name rest (10 ∷ []))

-- a flight's row under a scenario's name is the name, and then its row under none
pub named_flight : (day : CalendarDate) (name : List ℕ) (row : Row) → is_scenario_name name ≡ true
    → row_text default_writer (flight_row day name row) ≡ name ++ row_text default_writer (flight_row day [] row)
unfolding columns
named_flight day name row is = named_row name _ _ is

-- The row of one more element stands behind those before it.

pub rows_next : {X : Type 0} (fields : X → List (List ℕ)) (xs : List X) (k : ℕ) (x : X) → slice_get xs k ≡ Some x
    → csv_text (map fields (take (k + 1) xs)) ≡ csv_text (map fields (take k xs)) ++ row_text default_writer (fields x)
rows_next fields xs k x at =
    ap (λ l. csv_text (map fields l)) (take-next xs k ∙ ap (λ o. take k xs ++ cons_option o []) at)
    ∙ ap csv_text (map-append fields (take k xs) (x ∷ []))
    ∙ flat_map-append (row_text default_writer) (map fields (take k xs)) (fields x ∷ [])
    ∙ ap (λ l. csv_text (map fields (take k xs)) ++ l) (append-nil (row_text default_writer (fields x)))
