-- The text of values, piece by piece, and of a plan around its flights.
use Rattle.cdm_json.proofs.Words.{arith, ◌≡◌, ◌∙◌, ◌++◌, ◌+◌, ◌==◌, ℕ, zero, suc, Bool, true, false, cond, List, [], ◌∷◌, Some}
use Rattle.cdm_json.proofs.Words.{append_assoc, append-nil, fold, map, refl, sym, ap, take, codes, flat_map, slice_get, cons_option}
use Rattle.cdm_json.proofs.Words.{map-append, Json, ends, print, print_from, Token, begin_array, begin_object, end_array, end_object, key}
use Rattle.cdm_json.proofs.Words.{json_tokens, CalendarDate, RefusalWord, take-next, Plan, counts_of, Value, array_of, member_tokens}
use Rattle.cdm_json.proofs.{Words.{object_of, row_json, Row}, TokenLemmas.{array_tokens, object_tokens}}
use Rattle.cdm_json.specs.Lines.{head_members, json_line}
use Rattle.cdm_json.specs.Plans.{count_members, day_members, flights_text, number_of, plan_line, plan_members, refused_json}
use Rattle.cdm_json.specs.{Plans.{refused_members, rules_json, scenario_of}, declared.plan.PlanOf.PlanOf}
use Rattle.cdm_json.specs.inner.Around.{first_members, text_before, text_behind}
use Rattle.std.proofs.lemmas.{Bool.Decides.nat_tests, Grind.{flat_map-append, fold-append}}
use Rattle.json.proofs.Printed.Tokens.{ends_push, print_from-append}

-- whether a value ends where the tokens end, which come after one or not
abbrev ends_after : Bool → List Token → Bool
ends_after b ts = fold (λ _ t. ends t) b ts

-- the text of tokens that end otherwise than with a value, and then others
behind : (ts us : List Token) → ends_after false ts ≡ false → print (ts ++ us) ≡ print ts ++ print us
behind ts us fresh = print_from-append false ts us ∙ ap (λ b. print ts ++ print_from b us) fresh

-- the text of tokens that end with a value, and then others
apart : (ts us : List Token) → ends_after false ts ≡ true → print (ts ++ us) ≡ print ts ++ print_from true us
apart ts us ended = print_from-append false ts us ∙ ap (λ b. print ts ++ print_from b us) ended

object_ends : (b : Bool) (ms : List (List ℕ × Json)) → ends_after b (json_tokens (object_of ms)) ≡ true
object_ends b ms = ap (ends_after b) (object_tokens ms) ∙ ends_push b (begin_object ∷ flat_map member_tokens ms) end_object

array_ends : (js : List Json) → ends_after false (json_tokens (array_of js)) ≡ true
array_ends js = ap (ends_after false) (array_tokens js) ∙ ends_push false (begin_array ∷ flat_map json_tokens js) end_array

-- the text of an object with an array among its members: what stands before it, that of the array, and what stands behind
around : (first last : List (List ℕ × Json)) (name : List ℕ) (values : List Json) (m : List ℕ × Json)
    → print (json_tokens (object_of (first ++ (name, array_of values) ∷ (m ∷ last))))
    ≡ print (begin_object ∷ (flat_map member_tokens first ++ key name ∷ []))
    ++ (print (json_tokens (array_of values)) ++ 44 ∷ print (flat_map member_tokens (m ∷ last) ++ end_object ∷ []))
unfolding print_from
around first last name values m =
    let value = json_tokens (array_of values) in
    let more = flat_map member_tokens (m ∷ last) ++ end_object ∷ [] in
    let all : List (List ℕ × Json) = first ++ (name, array_of values) ∷ (m ∷ last) in
    let begun : List Token = begin_object ∷ (flat_map member_tokens first ++ key name ∷ []) in
    let written : json_tokens (object_of all) ≡ begun ++ (value ++ more) =
    object_tokens all
    ∙ ap (λ ts. begin_object ∷ ts)
    (ap (λ ts. ts ++ end_object ∷ []) (flat_map-append member_tokens first ((name, array_of values) ∷ (m ∷ last)))
    ∙ append_assoc (flat_map member_tokens first) (flat_map member_tokens ((name, array_of values) ∷ (m ∷ last))) (end_object ∷ [])
    ∙ ap (λ ts. flat_map member_tokens first ++ key name ∷ ts) (append_assoc value (flat_map member_tokens (m ∷ last)) (end_object ∷ []))
    ∙ sym (append_assoc (flat_map member_tokens first) (key name ∷ []) (value ++ more))) in
    ap print written
    ∙ behind begun (value ++ more) (ends_push false (begin_object ∷ flat_map member_tokens first) (key name))
    ∙ ap (λ l. print begun ++ l) (apart value more (array_ends values))

-- what is told of a plan: before its flights, of them, and behind
plan_parts : (day : CalendarDate) (scenario : Value) (plan : Plan) (rows : List Row) (refused : List (ℕ × RefusalWord))
    → plan_members day scenario plan rows refused ≡ first_members day scenario plan ++ (codes "flights", array_of (map (row_json day) rows)) ∷ refused_members refused
unfolding plan_members
plan_parts day scenario plan rows refused =
    let days = day_members day scenario plan.clock in
    let counts = count_members (counts_of plan) in
    let rules : List (List ℕ × Json) = (codes "rules", rules_json (counts_of plan)) ∷ [] in
    let last : List (List ℕ × Json) = (codes "flights", array_of (map (row_json day) rows)) ∷ refused_members refused in
    ap (λ ms. days ++ ms) (sym (append_assoc counts rules last)) ∙ sym (append_assoc days (counts ++ rules) last)

-- the line of a plan: before its flights, of them, and behind
pub plan_around : (day : CalendarDate) (of : PlanOf) (plan : Plan) (rows : List Row) (refused : List (ℕ × RefusalWord))
    → (text_before day of plan ++ flights_text day rows) ++ text_behind refused ≡ plan_line day of plan rows refused
unfolding json_line
plan_around day of plan rows refused =
    let head = head_members (number_of of) (codes "PLAN") in
    let first = first_members day (scenario_of of) plan in
    let values = map (row_json day) rows in
    let last : List ℕ × Json = (codes "refused", array_of (map refused_json refused)) in
    let end = print (flat_map member_tokens (last ∷ []) ++ end_object ∷ []) in
    let before = text_before day of plan in
    let flights = flights_text day rows in
    let members : head ++ plan_members day (scenario_of of) plan rows refused ≡ (head ++ first) ++ (codes "flights", array_of values) ∷ (last ∷ []) =
    ap (λ ms. head ++ ms) (plan_parts day (scenario_of of) plan rows refused) ∙ sym (append_assoc head first ((codes "flights", array_of values) ∷ (last ∷ []))) in
    append_assoc before flights (44 ∷ (end ++ 10 ∷ []))
    ∙ ap (λ l. before ++ l) (sym (append_assoc flights (44 ∷ end) (10 ∷ [])))
    ∙ sym (append_assoc before (flights ++ 44 ∷ end) (10 ∷ []))
    ∙ ap (λ l. l ++ 10 ∷ []) (sym (ap (λ ms. print (json_tokens (object_of ms))) members ∙ around (head ++ first) [] (codes "flights") values last))

-- An array of objects, item by item.

module _ {X : Type 0} (f : X → List (List ℕ × Json)) where
  abbrev tokens_of : List X → List Token
  tokens_of xs = flat_map json_tokens (map (λ x. object_of (f x)) xs)

  all_end : (xs : List X) → ends_after true (tokens_of xs) ≡ true
  all_end [] = refl
  all_end (x ∷ xs) =
      fold-append (λ _ t. ends t) true (json_tokens (object_of (f x))) (tokens_of xs)
      ∙ ap (λ b. ends_after b (tokens_of xs)) (object_ends true (f x)) ∙ all_end xs

  some_end : (x : X) (xs : List X) → ends_after false (tokens_of (x ∷ xs)) ≡ true
  some_end x xs =
      fold-append (λ _ t. ends t) false (json_tokens (object_of (f x))) (tokens_of xs)
      ∙ ap (λ b. ends_after b (tokens_of xs)) (object_ends false (f x)) ∙ all_end xs

  not_first : (k : ℕ) → (suc k == 0) ≡ false
  not_first k = grind (arith, nat_tests)

  -- a comma stands before an item where there is one before it
  comma : (xs : List X) (k : ℕ) (x : X) → slice_get xs k ≡ Some x
      → print_from (ends_after false (begin_array ∷ tokens_of (take k xs))) (json_tokens (object_of (f x)))
      ≡ cond (k == 0) [] (44 ∷ []) ++ print (json_tokens (object_of (f x)))
  unfolding print_from
  comma xs zero x at = refl
  comma [] (suc k) x at = cc
  comma (y ∷ xs) (suc k) x at =
      let item = json_tokens (object_of (f x)) in
      ap (λ b. print_from b item) (some_end y (take k xs)) ∙ ap (λ b. cond b [] (44 ∷ []) ++ print item) (sym (not_first k))

  -- the text of an array up to one item more
  pub item_next : (xs : List X) (k : ℕ) (x : X) → slice_get xs k ≡ Some x
      → print (begin_array ∷ tokens_of (take (k + 1) xs))
      ≡ (print (begin_array ∷ tokens_of (take k xs)) ++ cond (k == 0) [] (44 ∷ [])) ++ print (json_tokens (object_of (f x)))
  item_next xs k x at =
      let before : List Token = begin_array ∷ tokens_of (take k xs) in
      let item = json_tokens (object_of (f x)) in
      let longer : tokens_of (take (k + 1) xs) ≡ tokens_of (take k xs) ++ item =
      ap tokens_of (take-next xs k ∙ ap (λ o. take k xs ++ cons_option o []) at)
      ∙ ap (flat_map json_tokens) (map-append (λ x. object_of (f x)) (take k xs) (x ∷ []))
      ∙ flat_map-append json_tokens (map (λ x. object_of (f x)) (take k xs)) (object_of (f x) ∷ [])
      ∙ ap (λ ts. tokens_of (take k xs) ++ ts) (append-nil item) in
      ap (λ ts. print (begin_array ∷ ts)) longer
      ∙ print_from-append false before item
      ∙ ap (λ l. print before ++ l) (comma xs k x at)
      ∙ sym (append_assoc (print before) (cond (k == 0) [] (44 ∷ [])) (print item))

closed : (b : Bool) → print_from b (end_array ∷ []) ≡ 93 ∷ []
unfolding print_from
closed true = refl
closed false = refl

-- the text of an array is that of its items and its end
pub items_closed : (js : List Json) → print (begin_array ∷ flat_map json_tokens js) ++ 93 ∷ [] ≡ print (json_tokens (array_of js))
items_closed js =
    let items : List Token = begin_array ∷ flat_map json_tokens js in
    sym (ap print (array_tokens js)
    ∙ print_from-append false items (end_array ∷ [])
    ∙ ap (λ l. print items ++ l) (closed (ends_after false items)))
