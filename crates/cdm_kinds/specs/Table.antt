-- The table of kinds as a text, and as JSON.
use Rattle.std.specs.Prelude.{ℕ, List, [], ◌∷◌, ◌++◌, codes, flat_map, map}
use Rattle.json.specs.Json.{Json, null, string, array, object, Items, no_items, item, no_members, member}
use Rattle.json.specs.Print.{print}
use Rattle.json.specs.Tree.{json_tokens}
use Rattle.cdm_flight.specs.declared.role.Role.{Role}
use Rattle.cdm_report.specs.Columns.{left_in}
use Rattle.cdm_kinds.specs.Kinds.{all_kinds, fields_of, kind_name, roles_of, subject_of}
use Rattle.cdm_kinds.specs.Words.{field_form, field_name, field_range, role_name, subject_name}
use Rattle.cdm_kinds.specs.declared.field.Field.{Field}
use Rattle.cdm_kinds.specs.declared.format.Format.{Format}
use Rattle.cdm_kinds.specs.declared.format.Format.TheVariants.{Text, Json as AsJson}
use Rattle.cdm_kinds.specs.declared.kind.Kind.{Kind}

-- As a text: a heading, and a line for each field of each kind.

abbrev pub heading : List ℕ
heading = codes "KIND   OF      ROLES  FIELD     FORM" ++ 10 ∷ []

-- a range behind a form, if there is one
abbrev pub range_text : List ℕ → List ℕ
range_text [] = []
range_text (b ∷ range) = codes ", " ++ b ∷ range

-- a role and a blank
abbrev pub role_text : Role → List ℕ
role_text role = role_name role ++ 32 ∷ []

-- what a line says of its kind: the word, what it is of, and who may send it
abbrev pub kind_columns : Kind → List ℕ
kind_columns kind = left_in 7 (kind_name kind) ++ left_in 8 (subject_name (subject_of kind)) ++ left_in 7 (flat_map role_text (roles_of kind))

-- and then of the field: its name, its form and its range
unfoldable pub field_line : Kind → Field → List ℕ
field_line kind field = kind_columns kind ++ left_in 10 (field_name field) ++ field_form field ++ range_text (field_range field) ++ 10 ∷ []

abbrev pub kind_lines : Kind → List ℕ
kind_lines kind = flat_map (field_line kind) (fields_of kind)

-- As JSON: an object for each kind, one a line.

abbrev pub string_items : List (List ℕ) → Items
string_items [] = no_items
string_items (text ∷ texts) = item (string text) (string_items texts)

abbrev pub range_json : List ℕ → Json
range_json [] = null
range_json (b ∷ range) = string (b ∷ range)

abbrev pub field_json : Field → Json
field_json field =
    object (member (codes "name") (string (field_name field)) (member (codes "form") (string (field_form field))
    (member (codes "range") (range_json (field_range field)) no_members)))

abbrev pub field_items : List Field → Items
field_items [] = no_items
field_items (field ∷ fields) = item (field_json field) (field_items fields)

abbrev pub kind_json : Kind → Json
kind_json kind =
    object (member (codes "kind") (string (kind_name kind)) (member (codes "of") (string (subject_name (subject_of kind)))
    (member (codes "roles") (array (string_items (map role_name (roles_of kind))))
    (member (codes "fields") (array (field_items (fields_of kind))) no_members))))

unfoldable pub json_line : Kind → List ℕ
json_line kind = print (json_tokens (kind_json kind)) ++ 10 ∷ []

-- The table in a format.
abbrev pub kinds_text : Format → List ℕ
kinds_text Text = heading ++ flat_map kind_lines all_kinds
kinds_text AsJson = flat_map json_line all_kinds
