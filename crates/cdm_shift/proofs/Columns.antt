-- Texts on the left of a column.
use Rattle.std.proofs.Common.{ℕ, ◌≡◌, ◌-◌, ◌^◌, ◌<◌, ◌≤◌, List, ◌++◌, length, slice_index, refl, ap, sym, ◌∙◌, arith}
use Rattle.std.{proofs.Padding.{padded_is, repeat_ascii, take_chars_all}, specs.Fmt.{fill_text, format_spec, styled_text}}
use Rattle.cdm_report.{proofs.Widths.char_count-ascii, specs.Columns.left_in}

-- an ASCII text on the left of 3
pub left_three : (text : List ℕ) → ((k : ℕ) → slice_index text k < 128) → length text ≤ 3
    → styled_text (format_spec 32 1 0 3 (2 ^ 64 - 1)) text ≡ left_in 3 text
unfolding left_in
left_three text ascii short =
    let spec = format_spec 32 1 0 3 (2 ^ 64 - 1) in
    let blanks = repeat_ascii (3 - length text) 32 (omega arith) in
    let none : 3 - length text - 0 ≡ 3 - length text = omega arith in
    let whole = sym (take_chars_all _ text (omega arith)) in
    let missing = ap (λ n. 3 - n) (sym (char_count-ascii text ascii)) in
    sym (padded_is spec text text (3 - length text) 0 whole missing refl)
    ∙ ap (λ n. text ++ fill_text spec n) none
    ∙ ap (λ l. text ++ l) blanks

-- an ASCII text on the left of 5
pub left_five : (text : List ℕ) → ((k : ℕ) → slice_index text k < 128) → length text ≤ 5
    → styled_text (format_spec 32 1 0 5 (2 ^ 64 - 1)) text ≡ left_in 5 text
unfolding left_in
left_five text ascii short =
    let spec = format_spec 32 1 0 5 (2 ^ 64 - 1) in
    let blanks = repeat_ascii (5 - length text) 32 (omega arith) in
    let none : 5 - length text - 0 ≡ 5 - length text = omega arith in
    let whole = sym (take_chars_all _ text (omega arith)) in
    let missing = ap (λ n. 5 - n) (sym (char_count-ascii text ascii)) in
    sym (padded_is spec text text (5 - length text) 0 whole missing refl)
    ∙ ap (λ n. text ++ fill_text spec n) none
    ∙ ap (λ l. text ++ l) blanks
