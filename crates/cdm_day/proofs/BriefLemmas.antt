-- Flights in brief, beside the flights of a table.
use Rattle.cdm_day.proofs.Words.{rules, ◌≡◌, ℕ, zero, suc, ◌≤◌, ◌<◌, Bool, List, [], ◌∷◌, ◌++◌, map, length, set, None, refl, ap}
use Rattle.cdm_day.{proofs.Words.{arith, keys_of, values_of, insert_entry}, specs.inner.Briefs.{AreKeptAs, put_at}}
use Rattle.std.specs.List.{position_or_len}
use Rattle.cdm_plan.specs.declared.brief.Brief.{Brief}

-- where nothing is kept, it is what it should be
pub none : {briefs : List Brief} → AreKeptAs None briefs
none = λ x e. cc

module _ {X : Type 0} where
  -- within the list its element is set
  pub put_at-within : (xs : List X) (i : ℕ) (y : X) → i < length xs → put_at xs i y ≡ set xs i y
  put_at-within [] i y less = absurd (omega arith)
  put_at-within (x ∷ xs) zero y less = refl
  put_at-within (x ∷ xs) (suc i) y less = ap (λ l. x ∷ l) (put_at-within xs i y (omega arith))

  -- past it one more comes behind the others
  pub put_at-past : (xs : List X) (i : ℕ) (y : X) → length xs ≤ i → put_at xs i y ≡ xs ++ y ∷ []
  put_at-past [] i y past = refl
  put_at-past (x ∷ xs) zero y past = absurd (omega arith)
  put_at-past (x ∷ xs) (suc i) y past = ap (λ l. x ∷ l) (put_at-past xs i y (omega arith))

-- what the values of a table give, after one more entry
pub given-insert_entry : {K V Y : Type 0} (h : V → Y) (eq : K → K → Bool) (k : K) (v : V) (es : List (K × V))
    → map h (values_of (insert_entry eq es k v)) ≡ put_at (map h (values_of es)) (position_or_len (eq k) (keys_of es)) (h v)
given-insert_entry h eq k v [] = refl
given-insert_entry {K} {V} h eq k v (e ∷ es) = search (rules, given-insert_entry h eq k v es)
