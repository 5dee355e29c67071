-- Texts of lines.
use Rattle.std.proofs.{Common.{◌≡◌, ◌∙◌, ℕ, List, [], ◌∷◌, ◌++◌, append-nil, arith, refl, sym}, lemmas.Grind.flat_map-append}
use Rattle.std.specs.{Prelude.flat_map, List.{AllByRecursion, AllZip, concat}}
use Rattle.json.{specs.Json.Json, specs.Print.print, specs.Tree.json_tokens, proofs.Printed.Trees.document-print}
use Rattle.cdm_json.specs.Lines.{json_line}
use Rattle.cdm_lines.{specs.Lines.{AreLines, IsLine, FitsLine, deepest}, proofs.LineFeeds.value_none, proofs.Values.Small}

-- a value that nests so little fits a line
pub fits : (value : Json) → Small deepest value → FitsLine value
unfolding json_line
fits value small = record {
  nests = small.shallow;
  read_back = λ numbers. document-print value numbers (omega (arith, small.shallow));
  one_line = (print (json_tokens value), refl, value_none value small.clean);
}

pub line_of : (value : Json) (text : List ℕ) → Small deepest value → text ≡ json_line value → IsLine text
line_of value text small is = (value, fits value small, is)

-- Lines, one after another.

pub no_lines : AreLines []
no_lines = ([], tt, refl)

pub one_line : (text : List ℕ) → IsLine text → AreLines text
one_line text (value, is, same) = (value ∷ [], (is, tt), same ∙ sym (append-nil (json_line value)))

all-append : (a b : List Json) → AllByRecursion FitsLine a → AllByRecursion FitsLine b → AllByRecursion FitsLine (a ++ b)
all-append [] b x y = y
all-append (v ∷ a) b x y = (x.0, all-append a b x.1 y)

pub lines-append : (a b : List ℕ) → AreLines a → AreLines b → AreLines (a ++ b)
lines-append a b (vs, x, is) (ws, y, also) = (vs ++ ws, all-append vs ws x y, (λ i. is i ++ also i) ∙ sym (flat_map-append json_line vs ws))

pub lines-flat_map : {X : Type 0} (f : X → List ℕ) → ((x : X) → AreLines (f x)) → (xs : List X) → AreLines (flat_map f xs)
lines-flat_map f each [] = no_lines
lines-flat_map f each (x ∷ xs) = lines-append (f x) (flat_map f xs) (each x) (lines-flat_map f each xs)

pub lines-concat : (texts : List (List ℕ)) → AllByRecursion AreLines texts → AreLines (concat texts)
lines-concat [] each = no_lines
lines-concat (text ∷ texts) each = lines-append text (concat texts) each.0 (lines-concat texts each.1)

-- the same text
pub lines_same : (a b : List ℕ) → a ≡ b → AreLines b → AreLines a
lines_same a b same (vs, x, is) = (vs, x, same ∙ is)

pub line_same : (a b : List ℕ) → a ≡ b → IsLine b → IsLine a
line_same a b same (v, x, is) = (v, x, same ∙ is)

-- a text of lines for each item
pub lines-zip : {X : Type 0} (R : X → List ℕ → Type 0) → ((x : X) (text : List ℕ) → R x text → AreLines text) → (xs : List X) (texts : List (List ℕ))
    → AllZip R xs texts → AllByRecursion AreLines texts
lines-zip R each [] [] all = tt
lines-zip R each [] (text ∷ texts) all = absurd all
lines-zip R each (x ∷ xs) [] all = absurd all
lines-zip R each (x ∷ xs) (text ∷ texts) all = (each x text all.0, lines-zip R each xs texts all.1)

pub lines-all : (P : List ℕ → Type 0) → ((text : List ℕ) → P text → AreLines text) → (texts : List (List ℕ)) → AllByRecursion P texts → AllByRecursion AreLines texts
lines-all P each [] all = tt
lines-all P each (text ∷ texts) all = (each text all.0, lines-all P each texts all.1)
