-- What the widths of a format write.
use Rattle.std.proofs.Common.{ℕ, ◌≡◌, ◌-◌, ◌^◌, ◌<◌, ◌≤◌, List, [], ◌∷◌, ◌++◌, length, slice_index, refl, ap, sym, ◌∙◌, arith, true, ltb}
use Rattle.std.proofs.Common.{lt-ltb, suc, append_assoc}
use Rattle.std.proofs.Padding.{char_count-nil, char_count-cons, take_chars_all, padded_integral_right, styled_decimal_is, repeat_ascii}
use Rattle.std.{proofs.Padding.padded_is, specs.Fmt.{format_spec, decimal, styled_text, styled_decimal, char_count, fill_text}}
use Rattle.std.specs.List.{join_with_byte}
use Rattle.cdm_report.specs.Columns.{left_in, right_in}

-- a number on the right of a width
pub right_number : (width n : ℕ) → styled_decimal (format_spec 32 3 0 width (2 ^ 64 - 1)) n ≡ right_in width (decimal n)
unfolding right_in
right_number width n =
    styled_decimal_is _ n ∙ padded_integral_right (format_spec 32 3 0 width (2 ^ 64 - 1)) (decimal n) refl refl (λ e. cc) (λ e. cc) (omega arith)

-- an ASCII text has as many characters as bytes
pub char_count-ascii : (text : List ℕ) → ((k : ℕ) → slice_index text k < 128) → char_count text ≡ length text
char_count-ascii [] ascii = char_count-nil
char_count-ascii (b ∷ text) ascii =
    let low : ltb b 128 ≡ true = lt-ltb b 128 (ascii 0) in
    char_count-cons b text ∙ rw (low, char_count-ascii text (λ k. ascii (suc k))) (omega arith)

-- an ASCII text on the left of 7
pub left_text : (text : List ℕ) → ((k : ℕ) → slice_index text k < 128) → length text ≤ 7 → styled_text (format_spec 32 1 0 7 (2 ^ 64 - 1)) text ≡ left_in 7 text
unfolding left_in
left_text text ascii short =
    let blanks = repeat_ascii (7 - length text) 32 (omega arith) in
    let none : 7 - length text - 0 ≡ 7 - length text = omega arith in
    sym (padded_is (format_spec 32 1 0 7 (2 ^ 64 - 1)) text text (7 - length text) 0 (sym (take_chars_all _ text (omega arith))) (ap (λ n. 7 - n) (sym (char_count-ascii text ascii))) refl)
    ∙ ap (λ n. text ++ fill_text (format_spec 32 1 0 7 (2 ^ 64 - 1)) n) none
    ∙ ap (λ l. text ++ l) blanks

-- `write!` with more than twelve pieces writes the first twelve as one text, and then the rest
pub eight_columns : (a b c d e f g h : List ℕ) → (a ++ 32 ∷ (b ++ 32 ∷ (c ++ 32 ∷ (d ++ 32 ∷ (e ++ 32 ∷ (f ++ 32 ∷ [])))))) ++ (g ++ 32 ∷ h) ≡ join_with_byte 32 (a ∷ b ∷ c ∷ d ∷ e ∷ f ∷ g ∷ h ∷ [])
eight_columns a b c d e f g h = simp append_assoc
