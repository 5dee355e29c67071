-- The table of kinds is lines.
use Rattle.std.{proofs.Common.{◌≡◌, ℕ, ◌≤◌, List, [], ◌∷◌, map, arith, refl}, specs.Prelude.flat_map}
use Rattle.json.specs.Tree.{HasNumbers, ItemsHaveNumbers, depth, items_depth}
use Rattle.cdm_json.specs.Lines.{IsReadBack, json_line}
use Rattle.cdm_kinds.specs.{Kinds.{fields_of, roles_of}, Table.{field_items, json_line as kind_line, kind_json, range_json, string_items}}
use Rattle.cdm_kinds.specs.{Words.{field_range, role_name}, declared.field.Field.Field, declared.kind.Kind.Kind}
use Rattle.cdm_lines.{specs.Lines.{AreLines, FitsLine}, proofs.LineFeeds.{HasClean, ItemsClean}}
use Rattle.cdm_lines.proofs.{Texts.{fits, lines-flat_map, one_line}, Values.Small}

-- texts
texts_within : (texts : List (List ℕ)) → items_depth (string_items texts) ≤ 0
texts_within [] = omega arith
texts_within (text ∷ texts) = omega (arith, texts_within texts)

texts_clean : (texts : List (List ℕ)) → ItemsClean (string_items texts)
texts_clean [] = tt
texts_clean (text ∷ texts) = (tt, texts_clean texts)

texts_numbers : (texts : List (List ℕ)) → ItemsHaveNumbers (string_items texts)
texts_numbers [] = tt
texts_numbers (text ∷ texts) = (tt, texts_numbers texts)

-- a range
range_within : (range : List ℕ) → depth (range_json range) ≤ 0
range_within [] = omega arith
range_within (b ∷ range) = omega arith

range_clean : (range : List ℕ) → HasClean (range_json range)
range_clean [] = tt
range_clean (b ∷ range) = tt

range_numbers : (range : List ℕ) → HasNumbers (range_json range)
range_numbers [] = tt
range_numbers (b ∷ range) = tt

-- fields
fields_within : (fields : List Field) → items_depth (field_items fields) ≤ 1
fields_within [] = omega arith
fields_within (field ∷ fields) = omega (arith, range_within (field_range field), fields_within fields)

fields_clean : (fields : List Field) → ItemsClean (field_items fields)
fields_clean [] = tt
fields_clean (field ∷ fields) = ((tt, (tt, (range_clean (field_range field), tt))), fields_clean fields)

fields_numbers : (fields : List Field) → ItemsHaveNumbers (field_items fields)
fields_numbers [] = tt
fields_numbers (field ∷ fields) = ((tt, (tt, (range_numbers (field_range field), tt))), fields_numbers fields)

small_kind : (kind : Kind) → Small 4 (kind_json kind)
small_kind kind =
    let roles = texts_within (map role_name (roles_of kind)) in
    let fields = fields_within (fields_of kind) in
    record {
      shallow = omega (arith, roles, fields);
      clean = (tt, (tt, (texts_clean (map role_name (roles_of kind)), (fields_clean (fields_of kind), tt))));
    }

pub kind_fits : (kind : Kind) → FitsLine (kind_json kind)
kind_fits kind = fits (kind_json kind) (small_kind kind)

-- it has no number
pub kind_read_back : (kind : Kind) → IsReadBack (kind_json kind)
kind_read_back kind = (kind_fits kind).read_back (tt, (tt, (texts_numbers (map role_name (roles_of kind)), (fields_numbers (fields_of kind), tt))))

same_line : (kind : Kind) → kind_line kind ≡ json_line (kind_json kind)
unfolding kind_line json_line
same_line kind = refl

pub are_kinds : (kinds : List Kind) → AreLines (flat_map kind_line kinds)
are_kinds kinds = lines-flat_map kind_line (λ kind. one_line (kind_line kind) (kind_json kind, kind_fits kind, same_line kind)) kinds
