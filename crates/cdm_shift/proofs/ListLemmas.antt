-- What numbers one after another give.
use Rattle.std.proofs.Common.{append_assoc, get_or, ◌≡◌, ◌∙◌, ℕ, zero, suc, ◌+◌, ◌-◌, ◌<◌, ◌≤◌, ◌++◌, Bool, List, [], ◌∷◌, Option, None}
use Rattle.std.proofs.{Common.{Some, ap, length, map, refl, sym, take, arith}, lemmas.Bool.false≢true, lemmas.Grind.flat_map-append}
use Rattle.std.proofs.lemmas.List.{append-nil, flat_map_more, map-append, take_more, Elements.{filter-append, filter_map-append}}
use Rattle.std.specs.{Prelude.{IsSome, filter, flat_map, slice_get}, List.{cons_option, filter_map, range_with_len}}
use Rattle.cdm_plan.proofs.NameLemmas.{take-next}
use Rattle.cdm_view.proofs.RangeLemmas.{range-append}

-- as many numbers, and then as many more, with the number at which they part
range_parts : (a m b n l : ℕ) → b ≡ a + m → l ≡ m + n → range_with_len a l ≡ range_with_len a m ++ range_with_len b n
range_parts a m b n l p q =
    ap (range_with_len a) q ∙ (range-append a m n ∙ ap (λ c. range_with_len a m ++ range_with_len c n) (sym p))

-- what is told of one more number
pub numbers_more : {X : Type 0} (told : ℕ → List X) (start before after : List X) (from number : ℕ) → from ≤ number
    → before ≡ start ++ flat_map told (range_with_len from (number - from)) → after ≡ before ++ told number
    → after ≡ start ++ flat_map told (range_with_len from (number + 1 - from))
numbers_more told start before after from number order so_far next =
    let parts = range_parts from (number - from) number 1 (number + 1 - from) (omega arith) (omega arith) in
    let one_more = flat_map_more told start (range_with_len from (number - from)) number in
    cc

-- where each number of a range gives something, so many are given
given_first : {X : Type 0} (g : ℕ → Option X) (from count : ℕ) (o : Option X) → g from ≡ o → IsSome o → length (filter_map g (range_with_len (from + 1) count)) ≡ count
    → length (cons_option (g from) (filter_map g (range_with_len (from + 1) count))) ≡ suc count
given_first g from count None is some rest = absurd (false≢true some)
given_first g from count (Some x) is some rest =
    ap (λ o. length (cons_option o (filter_map g (range_with_len (from + 1) count)))) is ∙ ap suc rest

pub each_given : {X : Type 0} (g : ℕ → Option X) (from count : ℕ) → ((m : ℕ) → from ≤ m → m < from + count → IsSome (g m))
    → length (filter_map g (range_with_len from count)) ≡ count
each_given g from zero each = refl
each_given g from (suc count) each =
    let rest = each_given g (from + 1) count (λ m low high. each m (omega (arith, low)) (omega (arith, high))) in
    given_first g from count (g from) refl (each from (omega arith) (omega arith)) rest

-- what one more of a list gives
pub taken_more : {X Y : Type 0} (told : X → List Y) (start before after : List Y) (xs : List X) (place : ℕ) (next : Option X) → next ≡ slice_get xs place
    → before ≡ start ++ flat_map told (take place xs) → after ≡ before ++ flat_map told (cons_option next []) → after ≡ start ++ flat_map told (take (place + 1) xs)
taken_more told start before after xs place next at so_far more =
    let one_more = take-next xs place ∙ ap (λ o. take place xs ++ cons_option o []) (sym at) in
    let texts = flat_map-append told (take place xs) (cons_option next []) in
    more ∙ ap (λ t. t ++ flat_map told (cons_option next [])) so_far
    ∙ append_assoc start (flat_map told (take place xs)) (flat_map told (cons_option next []))
    ∙ ap (λ t. start ++ t) (sym (ap (flat_map told) one_more ∙ texts))

-- what one more number gives
pub number_more : {X : Type 0} (told : ℕ → List X) (before after : List X) (number : ℕ) → before ≡ flat_map told (range_with_len 0 number)
    → after ≡ before ++ told number → after ≡ flat_map told (range_with_len 0 (number + 1))
number_more told before after number so_far next =
    let parts = range_parts 0 number number 1 (number + 1) (omega arith) refl in
    let both = flat_map-append told (range_with_len 0 number) (number ∷ []) in
    next ∙ ap (λ xs. xs ++ told number) so_far ∙ ap (λ xs. flat_map told (range_with_len 0 number) ++ xs) (sym (append-nil (told number)))
    ∙ sym both ∙ ap (flat_map told) (sym parts)

-- of the numbers one after another that pass a test, one more
pub passing_more : {X : Type 0} (f : ℕ → X) (test : ℕ → Bool) (start before after : List X) (number : ℕ)
    → before ≡ start ++ map f (filter test (range_with_len 0 number)) → after ≡ before ++ map f (filter test (number ∷ []))
    → after ≡ start ++ map f (filter test (range_with_len 0 (number + 1)))
passing_more f test start before after number so_far next =
    let parts = range_parts 0 number number 1 (number + 1) (omega arith) refl in
    let kept = ap (filter test) parts ∙ filter-append test (range_with_len 0 number) (number ∷ []) in
    let given = ap (map f) kept ∙ map-append f (filter test (range_with_len 0 number)) (filter test (number ∷ [])) in
    next ∙ ap (λ xs. xs ++ map f (filter test (number ∷ []))) so_far
    ∙ append_assoc start (map f (filter test (range_with_len 0 number))) (map f (filter test (number ∷ [])))
    ∙ ap (λ xs. start ++ xs) (sym given)

-- of what the numbers one after another give, that of one more
pub given_more : {X : Type 0} (g : ℕ → Option X) (before after : List X) (from number : ℕ) → from ≤ number
    → before ≡ filter_map g (range_with_len from (number - from)) → after ≡ before ++ cons_option (g number) []
    → after ≡ filter_map g (range_with_len from (number + 1 - from))
given_more g before after from number order so_far next =
    let parts = range_parts from (number - from) number 1 (number + 1 - from) (omega arith) (omega arith) in
    let both = filter_map-append g (range_with_len from (number - from)) (number ∷ []) in
    next ∙ ap (λ xs. xs ++ cons_option (g number) []) so_far ∙ sym both ∙ ap (filter_map g) (sym parts)

-- what one more of a list gives, if it does
pub given_taken : {X Y : Type 0} (g : X → Option Y) (start before after : List Y) (xs : List X) (place : ℕ) (x : X) → place < length xs → get_or xs place x ≡ x
    → before ≡ start ++ filter_map g (take place xs) → after ≡ before ++ cons_option (g x) [] → after ≡ start ++ filter_map g (take (place + 1) xs)
given_taken g start before after xs place x within at so_far next =
    let one_more = take_more xs place x within ∙ ap (λ y. take place xs ++ y ∷ []) at in
    let both = filter_map-append g (take place xs) (x ∷ []) in
    next ∙ ap (λ ys. ys ++ cons_option (g x) []) so_far
    ∙ append_assoc start (filter_map g (take place xs)) (cons_option (g x) [])
    ∙ ap (λ ys. start ++ ys) (sym (ap (filter_map g) one_more ∙ both))

-- parts that are put behind one another
pub eight_parts : {X : Type 0} (a b c d e f g h one two three four five six seven eight : List X) → one ≡ a → two ≡ one ++ b → three ≡ two ++ c → four ≡ three ++ d
    → five ≡ four ++ e → six ≡ five ++ f → seven ≡ six ++ g → eight ≡ seven ++ h → eight ≡ a ++ b ++ c ++ d ++ e ++ f ++ g ++ h
eight_parts a b c d e f g h one two three four five six seven eight first second third fourth fifth sixth seventh last =
    let apart : (((((((a ++ b) ++ c) ++ d) ++ e) ++ f) ++ g) ++ h) ≡ a ++ b ++ c ++ d ++ e ++ f ++ g ++ h = simp append_assoc in
    last ∙ ap (λ x. x ++ h) (seventh ∙ ap (λ x. x ++ g) (sixth ∙ ap (λ x. x ++ f) (fifth ∙ ap (λ x. x ++ e) (fourth ∙ ap (λ x. x ++ d)
    (third ∙ ap (λ x. x ++ c) (second ∙ ap (λ x. x ++ b) first)))))) ∙ apart
