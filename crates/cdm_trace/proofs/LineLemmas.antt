-- The members of a line, written token by token.
use Rattle.std.proofs.Common.{◌≡◌, ◌∙◌, ◌+◌, ◌<◌, ◌++◌, ℕ, zero, suc, Bool, true, false, List, [], ◌∷◌, Some, length, map, take, refl, sym}
use Rattle.std.proofs.{Common.{ap, arith}, lemmas.Str.{IsUtf8-from_is_utf8, is_utf8-from_IsUtf8}, lemmas.List.take-map}
use Rattle.std.specs.{Prelude.{flat_map, slice_get}, Str.{IsUtf8, is_utf8}}
use Rattle.json.specs.{Json.{Json, null, string}, Token.Token, Tree.json_tokens}
use Rattle.json.specs.Token as token
use Rattle.csv.specs.Records.{field_at}
use Rattle.cdm_row.proofs.TokenLemmas.{pieces_next}
use Rattle.cdm_files.specs.Fields.{field}
use Rattle.cdm_trace.specs.Traces.{field_json}

-- a field that is UTF-8 is written as a text
pub text_written : (old new : List Token) (bytes text : List ℕ) → (text ≡ bytes) × IsUtf8 bytes → new ≡ old ++ token.string text ∷ []
    → new ≡ old ++ json_tokens (field_json bytes)
text_written old new bytes text is wrote =
    let told : field_json bytes ≡ string bytes = rw (is_utf8-from_IsUtf8 bytes is.1) refl in
    wrote ∙ ap (λ t. old ++ token.string t ∷ []) is.0 ∙ ap (λ j. old ++ json_tokens j) (sym told)

-- and another as null
null_field : (bytes : List ℕ) → ¬ (IsUtf8 bytes) → field_json bytes ≡ null
null_field bytes isnt = by (is_utf8 bytes) refl
  where
    by : (b : Bool) → is_utf8 bytes ≡ b → field_json bytes ≡ null
    by true e = absurd (isnt (IsUtf8-from_is_utf8 bytes e))
    by false e = rw e refl

pub null_written : (old new : List Token) (bytes : List ℕ) → ¬ (IsUtf8 bytes) → new ≡ old ++ token.null ∷ [] → new ≡ old ++ json_tokens (field_json bytes)
null_written old new bytes isnt wrote = wrote ∙ ap (λ j. old ++ json_tokens j) (sym (null_field bytes isnt))

-- the JSON of the field at a place of a record
field_there : (fields : List (List ℕ)) (place : ℕ) → place < length fields → slice_get (map field_json fields) place ≡ Some (field_json (field fields place))
unfolding field_at
field_there [] place within = absurd (omega (arith, within))
field_there (f ∷ fields) zero within = refl
field_there (f ∷ fields) (suc place) within = field_there fields place (omega (arith, within))

-- one field more behind those before it
pub fields_next : (fields : List (List ℕ)) (place : ℕ) (initial before after : List Token) → place < length fields
    → before ≡ initial ++ flat_map json_tokens (map field_json (take place fields))
    → after ≡ before ++ json_tokens (field_json (field fields place))
    → after ≡ initial ++ flat_map json_tokens (map field_json (take (place + 1) fields))
fields_next fields place initial before after within so_far next =
    let told : List Json → List Token = λ js. initial ++ flat_map json_tokens js in
    pieces_next json_tokens (map field_json fields) place (field_json (field fields place)) initial before after (field_there fields place within)
    (so_far ∙ ap told (sym (take-map field_json place fields))) next
    ∙ ap told (take-map field_json (place + 1) fields)
