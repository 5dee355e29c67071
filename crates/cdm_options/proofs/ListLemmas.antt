-- What numbers one after another give, and what is so of each element.
use Rattle.std.proofs.Common.{◌≡◌, ◌∙◌, ℕ, ◌+◌, Bool, true, false, All, List, [], ◌∷◌, ◌++◌, ap, map, refl, sym, zero-add, append_assoc}
use Rattle.std.proofs.lemmas.{Grind.flat_map-append, List.append-nil, List.FromFn.map-range_with_len_more}
use Rattle.std.proofs.lemmas.List.Elements.{All-append, All-cons, All-nil}
use Rattle.std.specs.{Prelude.{flat_map, if◌then◌else◌}, List.range_with_len}
use Rattle.cdm_view.proofs.RangeLemmas.{range-append}

-- one more number, with the number at which the range parts
range_more : (number : ℕ) → range_with_len 0 (number + 1) ≡ range_with_len 0 number ++ number ∷ []
range_more number = range-append 0 number 1 ∙ ap (λ n. range_with_len 0 number ++ n ∷ []) (zero-add number)

-- what one more number is made to
pub made_more : {X : Type 0} (made : ℕ → X) (start before after : List X) (number : ℕ) → before ≡ start ++ map made (range_with_len 0 number)
    → after ≡ before ++ made number ∷ [] → after ≡ start ++ map made (range_with_len 0 (number + 1))
made_more made start before after number so_far next =
    next ∙ ap (λ xs. xs ++ made number ∷ []) so_far
    ∙ append_assoc start (map made (range_with_len 0 number)) (made number ∷ [])
    ∙ ap (λ xs. start ++ xs) (sym (map-range_with_len_more made 0 number number (zero-add number)))

-- what is told of one more number
pub number_more : {X : Type 0} (told : ℕ → List X) (before after : List X) (number : ℕ) → before ≡ flat_map told (range_with_len 0 number)
    → after ≡ before ++ told number → after ≡ flat_map told (range_with_len 0 (number + 1))
number_more told before after number so_far next =
    next ∙ ap (λ xs. xs ++ told number) so_far ∙ ap (λ xs. flat_map told (range_with_len 0 number) ++ xs) (sym (append-nil (told number)))
    ∙ sym (flat_map-append told (range_with_len 0 number) (number ∷ [])) ∙ ap (flat_map told) (sym (range_more number))

-- what each list has, the lists put together have
pub all_flat : {X Y : Type 0} (P : Y → Type 0) (f : X → List Y) → ((x : X) → All P (f x)) → (xs : List X) → All P (flat_map f xs)
all_flat P f each [] = All-nil P
all_flat P f each (x ∷ xs) = All-append P (f x) (flat_map f xs) (each x) (all_flat P f each xs)

-- one element, where a test passes
pub all_if : {X : Type 0} (P : X → Type 0) (b : Bool) (x : X) → (b ≡ true → P x) → All P (if b then x ∷ [] else [])
all_if P true x holds = All-cons P x [] (holds refl) (All-nil P)
all_if P false x holds = All-nil P
