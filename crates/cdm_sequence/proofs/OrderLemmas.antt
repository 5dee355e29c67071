-- The order of sequence is a strict order, total on different names.
use Rattle.cdm_sequence.proofs.Words.{◌≡◌, ℕ, Bool, true, false, List, ◌∷◌, sym, ◌∙◌, ap, refl, arith, inl, inr, ◌⊎◌, get_or, rules, []}
use Rattle.cdm_sequence.proofs.Words.{Decides, Ordering, Less, Equal, Greater, is_lt, is_eq, ordering_reverse, ordering_then, nat_cmp}
use Rattle.cdm_sequence.proofs.Words.{IsTotalOrder, IsStrictWeakOrder, Contains, All-contains, All-from_get_or, Contains-get_or, ranks_by}
use Rattle.cdm_sequence.proofs.Words.{nat_cmp_total, nat_list_cmp_total, nat_list_eq_equiv, on_total, then_total, tied_itself, false≢true}
use Rattle.cdm_sequence.{proofs.Words.{Decides-eqb, Key, name_cmp, same_name, key_cmp, is_before}, specs.declared.target.Target.Target}
use Rattle.std.{specs.Cmp.Lexicographic.texts_ties, proofs.lemmas.List.MinMax.IsFirstBest-from_best_of}
use Rattle.std.proofs.lemmas.Slice.Eq.{slice_eq-Decides}

pub names_decide : (m n : List ℕ) → Decides (same_name m n) (m ≡ n)
names_decide m n = slice_eq-Decides Decides-eqb m n (same_name m n) refl

-- names that are the same are equal
pub same_is : (m n : List ℕ) → same_name m n ≡ true → m ≡ n
same_is m n h = (names_decide m n).0 h

pub is_same : (m n : List ℕ) → m ≡ n → same_name m n ≡ true
is_same m n e = (names_decide m n).1 e

pub same_flips : (m n : List ℕ) → same_name m n ≡ same_name n m
same_flips = nat_list_eq_equiv.symm

less_from : (o : Ordering) → is_lt o ≡ true → o ≡ Less
less_from o h = search rules

-- names that tie in their order are equal
pub tied_names : (m n : List ℕ) → name_cmp m n ≡ Equal → m ≡ n
tied_names m n e = same_is m n (texts_ties m n ∙ ap is_eq e)

pub key_total : IsTotalOrder key_cmp
key_total =
    then_total (on_total (λ k. k.priority) nat_cmp_total) (then_total (on_total (λ k. k.tobt) nat_cmp_total) (on_total (λ k. k.name) nat_list_cmp_total))

pub before_itself : (k : Key) → is_before k k ≡ false
unfolding is_before
before_itself k = ap is_lt (tied_itself key_total k)

pub before_trans : (a b c : Key) → is_before a b ≡ true → is_before b c ≡ true → is_before a c ≡ true
unfolding is_before
before_trans a b c p q = ap is_lt (key_total.trans a b c (less_from _ p) (less_from _ q))

-- where two orders tie one after the other, the last ties
pub last_ties : (o u : Ordering) → ordering_then o u ≡ Equal → u ≡ Equal
last_ties o u h = search rules

-- of two flights with different names one comes before the other
pub before_or_after : (a b : Key) → is_before b a ≡ false → same_name a.name b.name ≡ false → is_before a b ≡ true
unfolding is_before
before_or_after a b h n = go (key_cmp a b) refl where
  go : (o : Ordering) → key_cmp a b ≡ o → is_lt o ≡ true
  go Less e = refl
  go Equal e =
      let tied = tied_names a.name b.name (last_ties (nat_cmp a.tobt b.tobt) _ (last_ties (nat_cmp a.priority b.priority) _ e)) in
      absurd (false≢true (sym n ∙ is_same a.name b.name tied))
  go Greater e = absurd (false≢true (sym h ∙ ap is_lt (key_total.antisymm b a ∙ ap ordering_reverse e)))

pub not_back : (a b : Key) → is_before a b ≡ true → is_before b a ≡ false
not_back a b h = search (rules, before_itself, before_trans)

pub keys_weak : IsStrictWeakOrder (λ (x y : Target). is_before x.key y.key)
unfolding is_before
keys_weak = ranks_by key_total (λ t. t.key)

-- none of a list comes before its first in an order
pub first_in : {X : Type 0} (lt : X → X → Bool) → IsStrictWeakOrder lt → (xs : List X)
    → ((x : X) → Contains xs x → ⊥) ⊎ ((g : X) × Contains xs g × ((h : X) → Contains xs h → lt h g ≡ false))
first_in lt weak [] = inl (λ x i. absurd (omega (arith, i.1)))
first_in {X} lt weak (x ∷ xs) =
    let best = IsFirstBest-from_best_of weak x xs in
    let g = get_or (x ∷ xs) best.0 x in
    let least : X → Type 0 = λ h. lt h g ≡ false in
    inr (
      g,
      Contains-get_or (x ∷ xs) best.0 x best.1.0,
      λ h i. All-contains least (x ∷ xs) h (All-from_get_or least (x ∷ xs) x (λ k l. best.1.1 k x l)) i,
    )
