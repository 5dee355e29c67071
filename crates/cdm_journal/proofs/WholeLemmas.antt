-- The whole lines of a journal.
use Rattle.std.proofs.Common.{◌≡◌, ◌≢◌, ◌<◌, ◌≤◌, ◌+◌, ◌∙◌, ◌==◌, ℕ, zero, suc, true, false, List, [], ◌∷◌, ◌++◌, length, take, slice_index}
use Rattle.std.proofs.Common.{Option, Some, None, refl, sym, ap, arith, add-one, inl, inr, if◌then◌else◌, append_assoc}
use Rattle.std.proofs.lemmas.{Bool.{cases_Bool, false_from_ne_true}, List.{append-nil, length-append, nil_from_length}, Grind.common_steps}
use Rattle.std.proofs.lemmas.List.{Elements.All-from_get_or, Folds.{list_any-append, list_any_at, list_any_none}}
use Rattle.std.specs.List.{list_any}
use Rattle.csv.specs.Writing.{default_writer, escaped, field_text, fields_text, is_blank, needs_quotes, row_body}
use Rattle.memchr.specs.Find.{IsLastByte, is_byte}
use Rattle.cdm_journal.specs.{Journal.{has_line_feed, journal_line, journal_text, whole_lines}, Lines.line_record, Lines.LineRecord.One}
use Rattle.cdm_journal.proofs.LineLemmas.{one-feedless}

-- Lines.

-- where no line feed is, nothing is whole
none-whole : (bytes : List ℕ) → has_line_feed bytes ≡ false → whole_lines bytes ≡ []
unfolding whole_lines
none-whole [] none = refl
none-whole (b ∷ bs) none = rw none refl

line-whole : (line tail : List ℕ) → whole_lines (line ++ 10 ∷ tail) ≡ line ++ 10 ∷ whole_lines tail
unfolding whole_lines
line-whole [] tail = refl
line-whole (b ∷ bs) tail = rw (list_any-append (λ byte. byte == 10) bs (10 ∷ tail)) (grind (arith, common_steps, line-whole bs tail))

-- A record's line without its line feed.

line_body : List (List ℕ) → List ℕ
line_body fields = row_body default_writer fields ++ (if is_blank default_writer fields then 34 ∷ 34 ∷ [] else [])

line-is : (fields : List (List ℕ)) → journal_line fields ≡ line_body fields ++ 10 ∷ []
unfolding journal_line line_body
line-is fields = simp append_assoc refl

pub whole-behind : (records : List (List (List ℕ))) (part : List ℕ) → whole_lines (journal_text records ++ part) ≡ journal_text records ++ whole_lines part
unfolding journal_text
whole-behind [] part = refl
whole-behind (fields ∷ records) part =
    rw (line-is fields) (simp append_assoc (line-whole (line_body fields) (journal_text records ++ part) ∙ ap (λ (l : List ℕ). line_body fields ++ 10 ∷ l) (whole-behind records part)))

pub is-whole : (records : List (List (List ℕ))) → whole_lines (journal_text records) ≡ journal_text records
unfolding whole_lines
is-whole records = rw append-nil at (whole-behind records [])

-- Torn lines.

escaped-feedless : (x : List ℕ) → has_line_feed x ≡ false → has_line_feed (escaped default_writer x) ≡ false
unfolding escaped
escaped-feedless [] none = refl
escaped-feedless (b ∷ bs) none = grind (arith, common_steps, escaped-feedless bs)

field-feedless : (x : List ℕ) → has_line_feed x ≡ false → has_line_feed (field_text default_writer x) ≡ false
field-feedless x none = elim (cases_Bool (needs_quotes default_writer x)) [
  | inl needs ↦ rw needs (simp list_any-append (rw (escaped-feedless x none) refl))
  | inr plain ↦ rw plain none
]

fields-feedless : (fields : List (List ℕ)) → list_any has_line_feed fields ≡ false → has_line_feed (fields_text default_writer fields) ≡ false
unfolding fields_text
fields-feedless [] none = refl
fields-feedless (x ∷ fields) none = simp list_any-append (grind (arith, common_steps, field-feedless x, fields-feedless fields))

body-feedless : (fields : List (List ℕ)) → list_any has_line_feed fields ≡ false → has_line_feed (line_body fields) ≡ false
unfolding is_blank line_body
body-feedless [] none = refl
body-feedless (x ∷ fields) none = simp list_any-append (grind (arith, common_steps, field-feedless x, fields-feedless fields))

-- a first part of a line, short of its line feed
short-part : (line part rest : List ℕ) → has_line_feed line ≡ false → part ++ rest ≡ line ++ 10 ∷ [] → rest ≢ [] → has_line_feed part ≡ false
short-part line [] rest none is some = refl
short-part [] (b ∷ part) rest none is some = absurd (some (nil_from_length rest (omega (arith, simp length-append at (ap length is)))))
short-part (l ∷ line) (b ∷ part) rest none is some = grind (arith, common_steps, short-part line part rest)

pub leaves-torn : (records : List (List (List ℕ))) (line : List ℕ) (fields : List (List ℕ)) (part rest : List ℕ) → has_line_feed line ≡ false → line_record line ≡ One fields
    → part ++ rest ≡ journal_line fields → rest ≢ [] → whole_lines (journal_text records ++ part) ≡ journal_text records
leaves-torn records line fields part rest none one is some =
    let torn = short-part (line_body fields) part rest (body-feedless fields (one-feedless line fields none one)) (is ∙ line-is fields) some in
    rw (whole-behind records part, none-whole part torn) (append-nil (journal_text records))

-- How long they are.

nowhere-feed : (bytes : List ℕ) → ((k : ℕ) → k < length bytes → (slice_index bytes k == 10) ≡ true → ⊥) → has_line_feed bytes ≡ false
nowhere-feed bytes none =
    list_any_none (λ byte. byte == 10) bytes
    (All-from_get_or (λ byte. (byte == 10) ≡ false) bytes 0 (λ k short. false_from_ne_true (slice_index bytes k == 10) (none k short)))

up-to : (bytes : List ℕ) (k : ℕ) → k < length bytes → (slice_index bytes k == 10) ≡ true
    → ((j : ℕ) → k < j → j < length bytes → (slice_index bytes j == 10) ≡ true → ⊥) → whole_lines bytes ≡ take (suc k) bytes
unfolding whole_lines
up-to [] k short is last = absurd (omega (arith, short))
up-to (b ∷ bs) zero short is last = rw (is, none-whole bs (nowhere-feed bs (λ j low. last (suc j) (omega arith) (omega (arith, low))))) refl
up-to (b ∷ bs) (suc k) short is last =
    rw (list_any_at (λ byte. byte == 10) (b ∷ bs) (suc k) 0 short is, up-to bs k (omega (arith, short)) is (λ j after below. last (suc j) (omega (arith, after)) (omega (arith, below)))) refl

-- what the search for the last line feed tells
abbrev pub end_of : Option ℕ → ℕ
end_of None = 0
end_of (Some last) = last + 1

pub found-whole : (bytes : List ℕ) (found : Option ℕ) → IsLastByte (is_byte 10) bytes found → take (end_of found) bytes ≡ whole_lines bytes
found-whole bytes None none = sym (none-whole bytes (nowhere-feed bytes (λ k short. none k (omega arith) short)))
found-whole bytes (Some last) is =
    rw (add-one last) (sym (up-to bytes last is.0.high is.1 (λ j after. is.0.after j (omega (arith, after)))))

pub found-within : (bytes : List ℕ) (found : Option ℕ) → IsLastByte (is_byte 10) bytes found → end_of found ≤ length bytes
found-within bytes None none = omega arith
found-within bytes (Some last) is = let high = is.0.high in omega (arith, high)
