-- A scenario's name on the left of its column, and columns with blanks between them.
use Rattle.cdm_table.proofs.Words.{ℕ, ◌≡◌, ◌-◌, ◌^◌, ◌<◌, ◌≤◌, ◌++◌, List, ◌∷◌, [], length, slice_index, ap, refl, sym, ◌∙◌, arith}
use Rattle.cdm_table.proofs.Words.{join_with_byte}
use Rattle.std.{specs.Fmt.{format_spec, fill_text, styled_text}, proofs.Padding.{take_chars_all, repeat_ascii, padded_is}}
use Rattle.cdm_report.{specs.Columns.left_in, proofs.Widths.char_count-ascii}

-- an ASCII text on the left of 16
pub left_in-sixteen : (text : List ℕ) → ((k : ℕ) → slice_index text k < 128) → length text ≤ 16 → styled_text (format_spec 32 1 0 16 (2 ^ 64 - 1)) text ≡ left_in 16 text
unfolding left_in
left_in-sixteen text ascii short =
    let blanks = repeat_ascii (16 - length text) 32 (omega arith) in
    let none : 16 - length text - 0 ≡ 16 - length text = omega arith in
    sym (padded_is (format_spec 32 1 0 16 (2 ^ 64 - 1)) text text (16 - length text) 0 (sym (take_chars_all _ text (omega arith))) (ap (λ n. 16 - n) (sym (char_count-ascii text ascii))) refl)
    ∙ ap (λ n. text ++ fill_text (format_spec 32 1 0 16 (2 ^ 64 - 1)) n) none
    ∙ ap (λ l. text ++ l) blanks

-- six columns
pub six_columns : (a b c d e f : List ℕ) → a ++ 32 ∷ (b ++ 32 ∷ (c ++ 32 ∷ (d ++ 32 ∷ (e ++ 32 ∷ f)))) ≡ join_with_byte 32 (a ∷ b ∷ c ∷ d ∷ e ∷ f ∷ [])
six_columns a b c d e f = refl
