-- Names are in the order of their numbers.
use Rattle.std.proofs.lemmas.Grind.{common_steps}
use Rattle.std.proofs.Common.{◌≡◌, ℕ, ◌+◌, ◌*◌, ◌^◌, ◌<◌, ◌≤◌, true, zero, suc, List, [], ◌∷◌, length, IsTrue, arith, refl, sym, ap, ◌∙◌}
use Rattle.std.{proofs.lemmas.Bool.Decides.nat_tests, proofs.lemmas.Cmp.ranked, proofs.lemmas.Nat.mul-add-lt, specs.Prelude.nat_eq}
use Rattle.std.specs.{Int.{w64, from_be_bytes}, Ordering.{MatchOrdering, nat_cmp, ordering_then, is_eq}, declared.cmp.Ordering.Ordering}
use Rattle.std.specs.{declared.cmp.Ordering.TheVariants.{Less, Equal, Greater}, Cmp.{nat_cmp_is, unsigned_ties}}
use Rattle.std.specs.{Cmp.Lexicographic.texts_ties, List.list_all}
use Rattle.cdm_flight.{specs.Names.{is_letter_or_digit, name_cmp, same_name}, specs.inner.Padded.{digits, padded}, proofs.NameLemmas.both}

-- letters and digits are no zeros, and bytes
digit : (b : ℕ) → is_letter_or_digit b ≡ true → (0 < b) × (b < 256)
digit b h = grind (arith, nat_tests)

abbrev pub Letters : List ℕ → Type 0
Letters xs = IsTrue (list_all is_letter_or_digit xs)

power : (k : ℕ) → 0 < 256 ^ k
power zero = omega arith
power (suc k) = omega (arith, power k)

positive : (x p a : ℕ) → 0 < x → 0 < p → 0 < x * p + a
positive zero p a g h = absurd (omega arith)
positive (suc x) p a g h = omega arith

-- the number of some bytes is below the next power
below_power : (k : ℕ) (xs : List ℕ) → Letters xs → digits k xs < 256 ^ k
below_power zero xs h = omega arith
below_power (suc k) [] h = power (suc k)
below_power (suc k) (x ∷ xs) h =
    let letters = both _ _ h in
    let here = mul-add-lt x (256 ^ k) (digits k xs) 256 (digit x letters.0).1 (below_power k xs letters.1) in
    omega (arith, here)

-- two numbers, each of a first byte and of others below a power, are in the order of the first, and then of the others
step : (x y p a b : ℕ) (r o : Ordering) → a < p → b < p → MatchOrdering r (x < y) (x ≡ y) (y < x) → MatchOrdering o (a < b) (a ≡ b) (b < a)
    → MatchOrdering (ordering_then r o) (x * p + a < y * p + b) (x * p + a ≡ y * p + b) (y * p + b < x * p + a)
step x y p a b Less o g h r s = let less = mul-add-lt x p a y r g in omega (arith, less)
step x y p a b Greater o g h r s = let less = mul-add-lt y p b x r h in omega (arith, less)
step x y p a b Equal Less g h r s = let same = ap (λ z. z * p) r in omega (arith, same, s)
step x y p a b Equal Equal g h r s = let same = ap (λ z. z * p) r in omega (arith, same, s)
step x y p a b Equal Greater g h r s = let same = ap (λ z. z * p) r in omega (arith, same, s)

-- the numbers of texts are in the order of the texts
in_order : (k : ℕ) (xs ys : List ℕ) → length xs ≤ k → length ys ≤ k → Letters xs → Letters ys
    → MatchOrdering (name_cmp xs ys) (digits k xs < digits k ys) (digits k xs ≡ digits k ys) (digits k ys < digits k xs)
in_order k [] [] g h r s = refl
in_order zero [] (y ∷ ys) g h r s = absurd (omega arith)
in_order zero (x ∷ xs) ys g h r s = absurd (omega arith)
in_order (suc k) [] (y ∷ ys) g h r s = positive y (256 ^ k) (digits k ys) (digit y (both _ _ s).0).0 (power k)
in_order (suc k) (x ∷ xs) [] g h r s = positive x (256 ^ k) (digits k xs) (digit x (both _ _ r).0).0 (power k)
in_order (suc k) (x ∷ xs) (y ∷ ys) g h r s =
    let first : (is_letter_or_digit x ≡ true) × Letters xs = both _ _ r in
    let second : (is_letter_or_digit y ≡ true) × Letters ys = both _ _ s in
    step x y (256 ^ k) (digits k xs) (digits k ys) (nat_cmp x y) (name_cmp xs ys)
    (below_power k xs first.1) (below_power k ys second.1) (ranked x y _ refl)
    (in_order k xs ys (omega arith) (omega arith) first.1 second.1)

-- the order of names is that of their numbers
pub number_cmp : (xs ys : List ℕ) → length xs ≤ 8 → length ys ≤ 8 → Letters xs → Letters ys → nat_cmp (digits 8 xs) (digits 8 ys) ≡ name_cmp xs ys
number_cmp xs ys g h r s = sym (nat_cmp_is (digits 8 xs) (digits 8 ys) (name_cmp xs ys) (in_order 8 xs ys g h r s))

-- names are the same where their numbers are
pub number_eq : (xs ys : List ℕ) → length xs ≤ 8 → length ys ≤ 8 → Letters xs → Letters ys → nat_eq (digits 8 xs) (digits 8 ys) ≡ same_name xs ys
number_eq xs ys g h r s = unsigned_ties _ _ ∙ ap is_eq (number_cmp xs ys g h r s) ∙ sym (texts_ties xs ys)

-- the eight bytes that keep a text make its number
pub read_number : (xs : List ℕ) → length xs ≤ 8 → from_be_bytes w64 (padded xs) ≡ digits 8 xs
read_number xs h = grind (arith, common_steps)
