-- Of two placings that differ one is earlier.
use Rattle.cdm_sequence.proofs.Words.{◌≡◌, ℕ, ◌==◌, Bool, true, false, not, List, Option, Some, None, sym, ◌∙◌, inl, inr, ◌⊎◌, filter}
use Rattle.cdm_sequence.proofs.Words.{rules, Contains, false_from_ne_true, false≢true, All-contains, filter_passes, contains_all}
use Rattle.cdm_sequence.proofs.{Words.{contains_kept, is_before}, OrderLemmas.{first_in, keys_weak}}
use Rattle.cdm_sequence.specs.{Plan.{Placing, IsSooner, IsEarlier}, declared.target.Target.Target}

abbrev unlike : Option ℕ → Option ℕ → Bool
unlike None None = false
unlike (Some a) (Some b) = not (a == b)
unlike _ _ = true

alike : (a b : Option ℕ) → unlike a b ≡ false → a ≡ b
alike a b h = search rules

one_sooner : (a b : Option ℕ) → unlike a b ≡ true → IsSooner a b ⊎ IsSooner b a
one_sooner a b h = search rules

pub compared : (fs : List Target) (p q : Placing) → ((f : Target) → Contains fs f → p f ≡ q f) ⊎ (IsEarlier fs p q ⊎ IsEarlier fs q p)
compared fs p q =
    let differs : Target → Bool = λ f. unlike (p f) (q f) in
    elim (first_in (λ (x y : Target). is_before x.key y.key) keys_weak (filter differs fs)) [
      | inl none ↦ inl (λ f i. alike (p f) (q f) (false_from_ne_true (differs f) (λ e. none f (contains_kept differs fs f i e))))
      | inr (g, i, least) ↦
          let among = contains_all differs fs g i in
          let agree : (h : Target) → Contains fs h → is_before h.key g.key ≡ true → p h ≡ q h = λ h j b.
          alike (p h) (q h) (false_from_ne_true (differs h) (λ e. false≢true (sym (least h (contains_kept differs fs h j e)) ∙ b))) in
          elim (one_sooner (p g) (q g) (All-contains (λ f. differs f ≡ true) (filter differs fs) g (filter_passes differs fs) i)) [
            | inl sooner ↦ inr (inl record { first = g; among = among; sooner = sooner; agree = agree })
            | inr sooner ↦ inr (inr record { first = g; among = among; sooner = sooner; agree = λ h j b. sym (agree h j b) })
          ]
    ]
