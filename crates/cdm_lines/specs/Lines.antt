-- What each line of JSON keeps.
use Rattle.std.specs.Prelude.{◌≡◌, ◌≤◌, ◌==◌, ℕ, List, [], ◌∷◌, ◌++◌, count_by, flat_map}
use Rattle.std.specs.List.{AllByRecursion}
use Rattle.json.specs.Json.{Json}
use Rattle.json.specs.Tree.{HasNumbers, depth}
use Rattle.cdm_json.specs.Lines.{IsReadBack, json_line}

-- how many line feeds a text has
abbrev pub line_feeds : List ℕ → ℕ
line_feeds text = count_by (λ byte. byte == 10) text

-- one line: its last byte is its only line feed
abbrev pub IsOneLine : List ℕ → Type 0
IsOneLine text = (body : List ℕ) × (text ≡ body ++ 10 ∷ []) × (line_feeds body ≡ 0)

-- how deep a line nests at most: its object, a list in that, an object of the list, a list in that
abbrev pub deepest : ℕ
deepest = 4

-- A value that is written as a line: it nests little, so whoever reads the line has the value, and it is one line. A writer writes no number
-- whose text isn't one.
pub record FitsLine (value : Json) : Type 0 where
  pub nests : depth value ≤ deepest
  pub read_back : HasNumbers value → IsReadBack value
  pub one_line : IsOneLine (json_line value)

-- a text is the line of such a value
abbrev pub IsLine : List ℕ → Type 0
IsLine text = (value : Json) × FitsLine value × (text ≡ json_line value)

-- a text is the lines of such values
abbrev pub AreLines : List ℕ → Type 0
AreLines text = (values : List Json) × AllByRecursion FitsLine values × (text ≡ flat_map json_line values)
