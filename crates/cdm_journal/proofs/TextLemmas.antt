-- A record's text, field by field.
use Rattle.std.proofs.Common.{◌≡◌, ◌+◌, ◌<◌, ◌∙◌, ℕ, zero, suc, List, [], ◌∷◌, ◌++◌, length, take, refl, sym, ap, append_assoc, add-one}
use Rattle.std.proofs.Common.{arith}
use Rattle.csv.specs.Records.{field_at}
use Rattle.cdm_files.specs.Fields.{field}
use Rattle.cdm_journal.specs.Journal.{record_text}

pub first_text : (fields : List (List ℕ)) → record_text (take 1 fields) ≡ field fields 0
unfolding record_text field_at
first_text [] = refl
first_text (x ∷ fields) = refl

-- one field more
later-text : (x : List ℕ) (fields : List (List ℕ)) (n : ℕ) → n < length fields → record_text (take (suc (suc n)) (x ∷ fields)) ≡ record_text (take (suc n) (x ∷ fields)) ++ 44 ∷ field fields n
unfolding record_text field_at
later-text x [] n short = absurd (omega (arith, short))
later-text x (y ∷ fields) zero short = refl
later-text x (y ∷ fields) (suc n) short =
    ap (λ (l : List ℕ). x ++ 44 ∷ l) (later-text y fields n (omega (arith, short)))
    ∙ sym (append_assoc x (44 ∷ record_text (take (suc n) (y ∷ fields))) (44 ∷ field fields n))

pub more_text : (fields : List (List ℕ)) (n : ℕ) → 0 < n → n < length fields → record_text (take (n + 1) fields) ≡ record_text (take n fields) ++ 44 ∷ field fields n
unfolding field_at
more_text (x ∷ fields) (suc n) some short = rw (add-one (suc n)) (later-text x fields n (omega (arith, short)))
more_text _ _ some short = absurd (omega (arith, some, short))
