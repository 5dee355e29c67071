-- Lines of tries, one after another.
use Rattle.cdm_table.proofs.Words.{◌≡◌, ◌∙◌, ◌++◌, ◌+◌, ◌<◌, ℕ, List, [], ◌∷◌, None, Some, length, take, length-take-le}
use Rattle.cdm_table.proofs.Words.{sym, ap, arith, slice_get, cons_option, take-next, Counts}
use Rattle.cdm_table.specs.{Comparison.{all_lines, lines_from}, Moved.TryRecord, declared.line.Line.Line, declared.line.Summary.Summary}
use Rattle.cdm_table.specs.declared.line.Summary.TheVariants.{Planned}

abbrev pub line_at : ℕ → TryRecord → Summary → Line
line_at place t x = record { place = place; name = Some t.scenario.name; at = t.at; summary = x }

-- the day's own line
abbrev line_at_day : Counts → Line
line_at_day counts = record { place = 0; name = None; at = None; summary = Planned counts 0 }

lines_from-push : (n : ℕ) (ss : List TryRecord) (xs : List Summary) (s : TryRecord) (x : Summary) → length xs ≡ length ss
    → lines_from n (ss ++ s ∷ []) (xs ++ x ∷ []) ≡ lines_from n ss xs ++ line_at (n + length ss) s x ∷ []
unfolding lines_from
lines_from-push n [] [] s x same =
    let here : n ≡ n + 0 = omega arith in ap (λ k. line_at k s x ∷ []) here
lines_from-push n (t ∷ ss) (y ∷ xs) s x same =
    let rest : lines_from (n + 1) (ss ++ s ∷ []) (xs ++ x ∷ []) ≡ lines_from (n + 1) ss xs ++ line_at (n + 1 + length ss) s x ∷ [] =
    lines_from-push (n + 1) ss xs s x (omega (arith, same)) in
    let here : n + 1 + length ss ≡ n + length (t ∷ ss) = omega arith in
    ap (λ (l : List Line). line_at n t y ∷ l) (rest ∙ ap (λ k. lines_from (n + 1) ss xs ++ line_at k s x ∷ []) here)
lines_from-push n _ _ s x same = absurd (omega (arith, same))

-- the line of one more scenario stands behind the others
pub one_more_line : (counts : Counts) (ss : List TryRecord) (xs : List Summary) (k : ℕ) (s : TryRecord) (x : Summary) → length xs ≡ length ss
    → k < length ss → slice_get ss k ≡ Some s → slice_get xs k ≡ Some x
    → all_lines counts (take (k + 1) ss) (take (k + 1) xs) ≡ all_lines counts (take k ss) (take k xs) ++ line_at (k + 1) s x ∷ []
one_more_line counts ss xs k s x same within at also =
    let tries : take (k + 1) ss ≡ take k ss ++ s ∷ [] = take-next ss k ∙ ap (λ o. take k ss ++ cons_option o []) at in
    let summaries : take (k + 1) xs ≡ take k xs ++ x ∷ [] = take-next xs k ∙ ap (λ o. take k xs ++ cons_option o []) also in
    let few : length (take k ss) ≡ k = length-take-le k ss (omega (arith, within)) in
    let many : length (take k xs) ≡ k = length-take-le k xs (omega (arith, within, same)) in
    let place : 1 + length (take k ss) ≡ k + 1 = omega (arith, few) in
    let pushed = lines_from-push 1 (take k ss) (take k xs) s x (many ∙ sym few) in
    (λ i. all_lines counts (tries i) (summaries i))
    ∙ ap (λ (l : List Line). line_at_day counts ∷ l) (pushed ∙ ap (λ n. lines_from 1 (take k ss) (take k xs) ++ line_at n s x ∷ []) place)
