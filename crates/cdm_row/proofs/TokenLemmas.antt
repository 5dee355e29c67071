-- Objects and arrays, written token by token.
use Rattle.std.proofs.Common.{◌≡◌, ◌∙◌, ◌+◌, ◌++◌, ℕ, zero, suc, List, [], ◌∷◌, Some, append_assoc, refl, sym, ap, map, take, arith, get_or}
use Rattle.std.proofs.Common.{length, ◌<◌}
use Rattle.std.proofs.lemmas.{Grind.flat_map-append, Grind.common_steps, List.append-nil, List.get_or-map, List.length-map}
use Rattle.std.{proofs.lemmas.Option.slice_get-get_or, specs.{Prelude.flat_map, Prelude.slice_get}}
use Rattle.json.specs.{Json.Json, Tree.items_tokens, Tree.json_tokens, Tree.members_tokens}
use Rattle.json.specs.Token.{Token, begin_array, begin_object, end_array, end_object}
use Rattle.cdm_plan.proofs.NameLemmas.{take-next}
use Rattle.cdm_time.specs.declared.calendar.CalendarDate.{CalendarDate}
use Rattle.cdm_row.specs.{Columns.Value, Columns.column_names, Columns.columns, Columns.values, declared.row.Row.Row}
use Rattle.cdm_row.specs.Json.{array_of, items_of, json_value, member_tokens, members_of, object_of, row_members}

members_written : (ms : List (List ℕ × Json)) → members_tokens (members_of ms) ≡ flat_map member_tokens ms ++ end_object ∷ []
members_written [] = refl
members_written (m ∷ ms) =
    ap (λ ts. member_tokens m ++ ts) (members_written ms) ∙ sym (append_assoc (member_tokens m) (flat_map member_tokens ms) (end_object ∷ []))

items_written : (js : List Json) → items_tokens (items_of js) ≡ flat_map json_tokens js ++ end_array ∷ []
items_written [] = refl
items_written (j ∷ js) =
    ap (λ ts. json_tokens j ++ ts) (items_written js) ∙ sym (append_assoc (json_tokens j) (flat_map json_tokens js) (end_array ∷ []))

-- an object is written where its bracket, its members and its end are
pub object_written : (old begun more ended : List Token) (ms : List (List ℕ × Json)) → begun ≡ old ++ begin_object ∷ []
    → more ≡ begun ++ flat_map member_tokens ms → ended ≡ more ++ end_object ∷ [] → ended ≡ old ++ json_tokens (object_of ms)
object_written old begun more ended ms first then last = grind (arith, common_steps, members_written)

-- and an array
pub array_written : (old begun more ended : List Token) (js : List Json) → begun ≡ old ++ begin_array ∷ []
    → more ≡ begun ++ flat_map json_tokens js → ended ≡ more ++ end_array ∷ [] → ended ≡ old ++ json_tokens (array_of js)
array_written old begun more ended js first then last = grind (arith, common_steps, items_written)

-- one more piece behind those before it
pub pieces_next : {X : Type 0} (piece : X → List Token) (xs : List X) (k : ℕ) (x : X) (initial before after : List Token) → slice_get xs k ≡ Some x
    → before ≡ initial ++ flat_map piece (take k xs) → after ≡ before ++ piece x → after ≡ initial ++ flat_map piece (take (k + 1) xs)
pieces_next {X} piece xs k x initial before after at so_far next = grind (arith, common_steps, take-next, flat_map-append, append-nil)

-- a column's name and its value at the same place
pub column_at : {N R V J : Type 0} (columns : List (N × (R → V))) (row : R) (f : V → J) (k : ℕ) (n : N) (v : V) → slice_get (map (λ c. c.0) columns) k ≡ Some n
    → slice_get (map (λ c. c.1 row) columns) k ≡ Some v → slice_get {X = N × J} (map (λ c. (c.0, f (c.1 row))) columns) k ≡ Some (n, f v)
column_at [] row f k n v at also = cc
column_at (c ∷ columns) row f zero n v at also = grind (arith, common_steps)
column_at (c ∷ columns) row f (suc k) n v at also = column_at columns row f k n v at also

-- what stands at a place of a list that tells of another
told_at : {X Y : Type 0} (xs : List X) (f : X → Y) (ys : List Y) (k : ℕ) (d : X) → map f xs ≡ ys → k < length ys → slice_get ys k ≡ Some (f (get_or xs k d))
told_at xs f ys k d same within =
    let long : length xs ≡ length ys = simp length-map at (ap length same) in
    let below : k < length xs = omega (arith, long, within) in
    ap (λ l. slice_get l k) (sym same)
    ∙ (slice_get-get_or (map f xs) k (f d) (rw length-map below) ∙ ap Some (get_or-map f xs k d (f d) below))

-- the members of a Row with one more, where names and values tell of its columns
pub members_next : {N V : Type 0} (names : List N) (name : N → List ℕ) (vals : List V) (told : V → Value) (day : CalendarDate) (row : Row) (k : ℕ) (n : N) (v : V)
    (initial before after : List Token) → map name names ≡ column_names → map told vals ≡ values row → k < 13
    → before ≡ initial ++ flat_map member_tokens (take k (row_members day row))
    → after ≡ before ++ member_tokens (name (get_or names k n), json_value day (told (get_or vals k v)))
    → after ≡ initial ++ flat_map member_tokens (take (k + 1) (row_members day row))
unfolding columns
members_next names name vals told day row k n v initial before after named valued within so_far next =
    let at = told_at names name column_names k n named within in
    let also = told_at vals told (values row) k v valued within in
    let here = column_at columns row (json_value day) k (name (get_or names k n)) (told (get_or vals k v)) at also in
    pieces_next member_tokens (row_members day row) k (name (get_or names k n), json_value day (told (get_or vals k v))) initial before after here so_far next
