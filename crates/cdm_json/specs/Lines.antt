-- Answers as lines of JSON.
use Rattle.std.specs.Prelude.{◌≡◌, ℕ, List, [], ◌∷◌, ◌++◌, codes, Option, None, Some}
use Rattle.json.specs.Json.{Json, document, string}
use Rattle.json.specs.Print.{print}
use Rattle.json.specs.Tree.{json_tokens}
use Rattle.cdm_row.specs.Json.{count_json, object_of}

-- a value on a line of its own
unfoldable pub json_line : Json → List ℕ
json_line value = print (json_tokens value) ++ 10 ∷ []

-- a text of this value is read back as it
abbrev pub IsReadBack : Json → Type 0
IsReadBack value = document (print (json_tokens value)) ≡ Some value

-- what stands before an answer's own members: nothing, or the number of the record that asked, and the word of the answer
abbrev pub head_members : Option ℕ → List ℕ → List (List ℕ × Json)
head_members None word = []
head_members (Some number) word = (codes "record", count_json number) ∷ (codes "reply", string word) ∷ []

-- an answer on a line of its own
abbrev pub answer_line : Option ℕ → List ℕ → List (List ℕ × Json) → List ℕ
answer_line number word members = json_line (object_of (head_members number word ++ members))
