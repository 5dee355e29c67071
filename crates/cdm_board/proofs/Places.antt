use Rattle.std.proofs.Common.{suc, zero, ◌≡◌, ◌≢◌, ◌≤◌, ◌<◌, ◌+◌, ℕ, Some, None, List, [], ◌∷◌, ◌++◌, length, take, drop, map, get_or, refl}
use Rattle.std.proofs.{Common.{sym, ap, ◌∙◌, arith, add-one, append_assoc}, lemmas.{List.at_drop_more, Bool.eq-eqb, Bool.ne_eqb}}
use Rattle.std.specs.List.{slice_get}
use Rattle.cdm_board.specs.{declared.receipt.Entry.Entry, Receipts.entry_of, Receipts.call_of, History.{Call, calls_of, IsFirstDifference}}

take-with : (ys : List Call) (n : ℕ) (c : Call) → slice_get ys n ≡ Some c → take (suc n) ys ≡ take n ys ++ c ∷ []
take-with [] n c e = cc
take-with (y ∷ ys) zero c e = (let k : y ≡ c = cc in ap (λ (z : Call). z ∷ []) k)
take-with (y ∷ ys) (suc n) c e = ap (λ zs. y ∷ zs) (take-with ys n c e)

get-seam : (ys rest : List Call) (n : ℕ) (c : Call) → n ≤ length ys → slice_get (take n ys ++ c ∷ rest) n ≡ Some c
get-seam [] rest zero c le = refl
get-seam [] rest (suc n) c le = absurd (omega arith)
get-seam (y ∷ ys) rest zero c le = refl
get-seam (y ∷ ys) rest (suc n) c le = get-seam ys rest n c (omega arith)

take-seam : (ys rest : List Call) (n : ℕ) → n ≤ length ys → take n (take n ys ++ rest) ≡ take n ys
take-seam ys rest zero le = refl
take-seam [] rest (suc n) le = absurd (omega arith)
take-seam (y ∷ ys) rest (suc n) le = ap (λ zs. y ∷ zs) (take-seam ys rest n (omega arith))

get-none : (ys : List Call) (n : ℕ) → slice_get (take n ys ++ []) n ≡ None
get-none [] zero = refl
get-none [] (suc n) = refl
get-none (y ∷ ys) zero = refl
get-none (y ∷ ys) (suc n) = get-none ys n

get-some : (ys : List Call) (n : ℕ) → n < length ys → slice_get ys n ≡ None → ⊥
get-some [] n lt e = absurd (omega arith)
get-some (y ∷ ys) zero lt e = cc
get-some (y ∷ ys) (suc n) lt e = get-some ys n (omega arith) e

-- the next call is the next receipt
pub place-next : (xs ys rest : List Call) (n : ℕ) (c : Call) → xs ≡ take n ys ++ c ∷ rest → slice_get ys n ≡ Some c → xs ≡ take (n + 1) ys ++ rest
place-next xs ys rest n c e at = rw (add-one) (rw (take-with ys n c at) (e ∙ sym (append_assoc (take n ys) (c ∷ []) rest)))

-- the next call is not the next receipt
pub place-differs : (xs ys rest : List Call) (n : ℕ) (c : Call) → n ≤ length ys → xs ≡ take n ys ++ c ∷ rest → (slice_get ys n ≡ Some c → ⊥) → IsFirstDifference xs ys (n + 1)
place-differs xs ys rest n c le e at =
    (n, refl, ap (take n) e ∙ take-seam ys (c ∷ rest) n le, λ same. at (sym same ∙ (ap (λ zs. slice_get zs n) e ∙ get-seam ys rest n c le)))

-- no call is left, and a receipt is
pub place-short : (xs ys : List Call) (n : ℕ) → n < length ys → xs ≡ take n ys ++ [] → IsFirstDifference xs ys (n + 1)
place-short xs ys n lt e =
    (n, refl, ap (take n) e ∙ take-seam ys [] n (omega arith), λ same. get-some ys n lt (sym same ∙ (ap (λ zs. slice_get zs n) e ∙ get-none ys n)))

-- the calls of a desk, one entry on
pub calls-here : (d : ℕ) (es : List Entry) (i : ℕ) (e : Entry) → i < length es → e ≡ get_or es i e → e.desk ≡ d
    → calls_of d (map entry_of (drop i es)) ≡ call_of e.receipt ∷ calls_of d (map entry_of (drop (i + 1) es))
calls-here d es i e lt item here =
    let F : List Entry → List Call = λ l. calls_of d (map entry_of l) in
    at_drop_more F es i e lt ∙ (ap (λ (x : Entry). F (x ∷ drop (i + 1) es)) (sym item) ∙ rw (eq-eqb e.desk d here) refl)

pub calls-past : (d : ℕ) (es : List Entry) (i : ℕ) (e : Entry) → i < length es → e ≡ get_or es i e → e.desk ≢ d → calls_of d (map entry_of (drop i es)) ≡ calls_of d (map entry_of (drop (i + 1) es))
calls-past d es i e lt item past =
    let F : List Entry → List Call = λ l. calls_of d (map entry_of l) in
    at_drop_more F es i e lt ∙ (ap (λ (x : Entry). F (x ∷ drop (i + 1) es)) (sym item) ∙ rw (ne_eqb e.desk d past) refl)
