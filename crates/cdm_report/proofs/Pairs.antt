-- The texts of two lists, pair by pair.
use Rattle.std.proofs.Common.{◌≡◌, ℕ, ◌+◌, ◌<◌, List, [], ◌∷◌, ◌++◌, length, get_or, take, sym, ap, ◌∙◌, arith}
use Rattle.std.proofs.lemmas.{List.{flat_map_more, take_more}, Slice.Zip.{get_or-zip, length-zip}}
use Rattle.std.specs.Prelude.{flat_map, zip}

-- the text of one more pair
pub one_more_pair : {A B : Type 0} (f : A × B → List ℕ) (text : List ℕ) (xs : List A) (ys : List B) (i : ℕ) (a : A) (b : B)
    → length ys ≡ length xs → i < length xs
    → (text ++ flat_map f (take i (zip xs ys))) ++ f (get_or xs i a, get_or ys i b) ≡ text ++ flat_map f (take (i + 1) (zip xs ys))
one_more_pair f text xs ys i a b same below =
    let pairs = zip xs ys in
    let here : i < length pairs = omega (arith, length-zip xs ys) in
    let next = take_more pairs i (a, b) here ∙ ap (λ p. take i pairs ++ p ∷ []) (get_or-zip xs ys i (a, b) below (omega arith)) in
    flat_map_more f text (take i pairs) (get_or xs i a, get_or ys i b) ∙ ap (λ l. text ++ flat_map f l) (sym next)
