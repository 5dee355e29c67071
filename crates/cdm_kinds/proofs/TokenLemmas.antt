-- The tokens of the table's values.
use Rattle.std.proofs.Common.{◌≡◌, ◌++◌, ◌∙◌, List, [], ◌∷◌, ap, append_assoc, map, refl, sym, Result, Ok, Err}
use Rattle.std.specs.Prelude.{codes, flat_map, OnOk}
use Rattle.json.specs.{Json.array, Token.{Token, begin_array, begin_object, end_array, end_object, key, string}}
use Rattle.json.specs.Tree.{items_tokens, json_tokens}
use Rattle.cdm_flight.specs.declared.role.Role.{Role}
use Rattle.cdm_kinds.specs.Kinds.{fields_of, kind_name, roles_of, subject_of}
use Rattle.cdm_kinds.specs.Table.{field_items, field_json, kind_json, range_json, string_items}
use Rattle.cdm_kinds.specs.{Words.{field_form, field_name, field_range, role_name, subject_name}, declared.field.Field.Field}
use Rattle.cdm_kinds.specs.declared.kind.Kind.{Kind}

-- an array's tokens are its brackets and those of its items between them
pub words_end : (roles : List Role) → items_tokens (string_items (map role_name roles)) ≡ map (λ role. string (role_name role)) roles ++ end_array ∷ []
words_end [] = refl
words_end (role ∷ roles) = ap (λ ts. string (role_name role) ∷ ts) (words_end roles)

pub fields_end : (fields : List Field) → items_tokens (field_items fields) ≡ flat_map (λ field. json_tokens (field_json field)) fields ++ end_array ∷ []
fields_end [] = refl
fields_end (field ∷ fields) =
    ap (λ ts. json_tokens (field_json field) ++ ts) (fields_end fields)
    ∙ sym (append_assoc (json_tokens (field_json field)) (flat_map (λ f. json_tokens (field_json f)) fields) (end_array ∷ []))

-- and an object's those of its members
pub field_tokens : (field : Field) → json_tokens (field_json field)
    ≡ begin_object ∷ key (codes "name") ∷ string (field_name field) ∷ key (codes "form") ∷ string (field_form field)
    ∷ ((key (codes "range") ∷ json_tokens (range_json (field_range field))) ++ end_object ∷ [])
field_tokens field = refl

pub kind_tokens : (kind : Kind) → json_tokens (kind_json kind)
    ≡ begin_object ∷ key (codes "kind") ∷ string (kind_name kind) ∷ key (codes "of") ∷ string (subject_name (subject_of kind))
    ∷ ((key (codes "roles") ∷ json_tokens (array (string_items (map role_name (roles_of kind)))))
    ++ ((key (codes "fields") ∷ json_tokens (array (field_items (fields_of kind)))) ++ end_object ∷ []))
kind_tokens kind = refl

-- a member that is an array, written piece by piece
pub array_member : (k : Token) (start named opened filled ended mid items : List Token) → named ≡ start ++ k ∷ [] → opened ≡ named ++ begin_array ∷ []
    → filled ≡ opened ++ mid → items ≡ mid ++ end_array ∷ [] → ended ≡ filled ++ end_array ∷ [] → ended ≡ start ++ k ∷ begin_array ∷ items
array_member k start named opened filled ended mid items a b c d e =
    let apart : (((start ++ k ∷ []) ++ begin_array ∷ []) ++ mid) ++ end_array ∷ [] ≡ start ++ k ∷ begin_array ∷ (mid ++ end_array ∷ []) = simp append_assoc in
    e ∙ ap (λ w. w ++ end_array ∷ []) (c ∙ ap (λ w. w ++ mid) (b ∙ ap (λ w. w ++ begin_array ∷ []) a)) ∙ apart
    ∙ ap (λ l. start ++ k ∷ begin_array ∷ l) (sym d)

-- what follows of a call that is made
pub on-ok-then : {T E P Q : Type 0} (r : Result T E) → (P → Q) → OnOk r P → OnOk r Q
on-ok-then (Ok x) more is = more is
on-ok-then (Err e) more is = is
