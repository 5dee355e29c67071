-- Members and objects, written token by token.
use Rattle.cdm_json.proofs.Words.{◌≡◌, ◌∙◌, ◌++◌, ◌+◌, ◌-◌, ◌<◌, ◌≤◌, ℕ, List, [], ◌∷◌, append_assoc, arith, get_or, length, map, refl, sym}
use Rattle.cdm_json.proofs.Words.{take, ap, Result, Ok, Err, IfOk, codes, flat_map, zip, range_with_len, flat_map_more, take_more, Json}
use Rattle.cdm_json.proofs.Words.{string, Token, begin_array, begin_object, end_array, end_object, key, json_tokens, date_text, time_text}
use Rattle.cdm_json.proofs.Words.{CalendarDate, text_of, RefusalWord, RunwayRules, Value, array_of, count_json, json_value, member_tokens}
use Rattle.cdm_json.{proofs.Words.{array_written, object_written, object_of}, specs.Loads.runway_members}
use Rattle.cdm_json.specs.Plans.{day_members, refused_json}
use Rattle.cdm_view.proofs.RangeLemmas.{range-append}
use Rattle.std.proofs.lemmas.{Grind.flat_map-append, List.append-nil, Slice.Zip.{get_or-zip, length-zip}}

-- parts of members
pub two_parts : (a b : List (List ℕ × Json)) → flat_map member_tokens (a ++ b) ≡ flat_map member_tokens a ++ flat_map member_tokens b
two_parts a b = flat_map-append member_tokens a b

-- the tokens of an object, and of an array
pub object_tokens : (ms : List (List ℕ × Json)) → json_tokens (object_of ms) ≡ begin_object ∷ (flat_map member_tokens ms ++ end_object ∷ [])
object_tokens ms =
    sym (object_written [] (begin_object ∷ []) (begin_object ∷ flat_map member_tokens ms) (begin_object ∷ (flat_map member_tokens ms ++ end_object ∷ [])) ms refl refl refl)

pub array_tokens : (js : List Json) → json_tokens (array_of js) ≡ begin_array ∷ (flat_map json_tokens js ++ end_array ∷ [])
array_tokens js =
    sym (array_written [] (begin_array ∷ []) (begin_array ∷ flat_map json_tokens js) (begin_array ∷ (flat_map json_tokens js ++ end_array ∷ [])) js refl refl refl)

-- an object of two parts
pub part_tokens : (a b : List (List ℕ × Json))
    → json_tokens (object_of (a ++ b)) ≡ begin_object ∷ (flat_map member_tokens a ++ (flat_map member_tokens b ++ end_object ∷ []))
part_tokens a b = object_tokens (a ++ b) ∙ rw (two_parts, append_assoc) refl

-- members, one after another
pub day_tokens : (day : CalendarDate) (scenario : Value) (now : ℕ) → flat_map member_tokens (day_members day scenario now)
    ≡ member_tokens (codes "scenario", json_value day scenario) ++ (member_tokens (codes "day", string (date_text day))
    ++ member_tokens (codes "now", string (time_text day now)))
day_tokens day scenario now = refl

pub runway_tokens : (day : CalendarDate) (rules : RunwayRules) (now : ℕ) → flat_map member_tokens (runway_members day rules now)
    ≡ member_tokens (codes "runway", string rules.name) ++ (member_tokens (codes "cell", count_json rules.cell) ++ member_tokens (codes "now", string (time_text day now)))
runway_tokens day rules now = refl

pub refused_tokens : (number : ℕ) (word : RefusalWord) → json_tokens (refused_json (number, word))
    ≡ begin_object ∷ (member_tokens (codes "record", count_json number) ++ (member_tokens (codes "word", string (text_of word)) ++ end_object ∷ []))
refused_tokens number word = refl

-- members of members
pub nested : {X : Type 0} (f : X → List (List ℕ × Json)) (xs : List X) → flat_map member_tokens (flat_map f xs) ≡ flat_map (λ x. flat_map member_tokens (f x)) xs
nested f [] = refl
nested f (x ∷ xs) = flat_map-append member_tokens (f x) (flat_map f xs) ∙ ap (λ ts. flat_map member_tokens (f x) ++ ts) (nested f xs)

-- the line of an answer is written where its head, its members and its end are
pub line_written : (begun more : List Token) (head members : List (List ℕ × Json)) → begun ≡ begin_object ∷ flat_map member_tokens head
    → more ≡ begun ++ flat_map member_tokens members → more ≡ begin_object ∷ flat_map member_tokens (head ++ members)
line_written begun more head members first then =
    then ∙ ap (λ ts. ts ++ flat_map member_tokens members) first ∙ ap (λ ts. begin_object ∷ ts) (sym (flat_map-append member_tokens head members))

-- a member that is an array is written where its name, its bracket, its items and its end are
pub array_member : (old named begun more ended : List Token) (name : List ℕ) (js : List Json) → named ≡ old ++ key name ∷ [] → begun ≡ named ++ begin_array ∷ []
    → more ≡ begun ++ flat_map json_tokens js → ended ≡ more ++ end_array ∷ [] → ended ≡ old ++ flat_map member_tokens ((name, array_of js) ∷ [])
array_member old named begun more ended name js first then items last =
    array_written named begun more ended js then items last
    ∙ ap (λ ts. ts ++ json_tokens (array_of js)) first
    ∙ append_assoc old (key name ∷ []) (json_tokens (array_of js))
    ∙ ap (λ ts. old ++ ts) (sym (append-nil (member_tokens (name, array_of js))))

-- what is told of one more pair
pub pair_more : {A B : Type 0} (f : A × B → List Token) (initial before after : List Token) (xs : List A) (ys : List B) (i : ℕ) (a : A) (b : B)
    → length ys ≡ length xs → i < length xs → before ≡ initial ++ flat_map f (take i (zip xs ys)) → after ≡ before ++ f (get_or xs i a, get_or ys i b)
    → after ≡ initial ++ flat_map f (take (i + 1) (zip xs ys))
pair_more f initial before after xs ys i a b same below so_far next =
    let pairs = zip xs ys in
    let here : i < length pairs = omega (arith, length-zip xs ys) in
    let one = take_more pairs i (a, b) here ∙ ap (λ p. take i pairs ++ p ∷ []) (get_or-zip xs ys i (a, b) below (omega arith)) in
    next ∙ ap (λ ts. ts ++ f (get_or xs i a, get_or ys i b)) so_far
    ∙ flat_map_more f initial (take i pairs) (get_or xs i a, get_or ys i b) ∙ ap (λ l. initial ++ flat_map f l) (sym one)

-- one member, and one more behind others
pub one_member : (old new : List Token) (m : List ℕ × Json) → new ≡ old ++ member_tokens m → new ≡ old ++ flat_map member_tokens (m ∷ [])
one_member old new m is = is ∙ ap (λ ts. old ++ ts) (sym (append-nil (member_tokens m)))

pub more_members : (old before after : List Token) (ms : List (List ℕ × Json)) (m : List ℕ × Json) → before ≡ old ++ flat_map member_tokens ms
    → after ≡ before ++ member_tokens m → after ≡ old ++ flat_map member_tokens (ms ++ m ∷ [])
more_members old before after ms m so_far next =
    next ∙ ap (λ ts. ts ++ member_tokens m) so_far ∙ append_assoc old (flat_map member_tokens ms) (member_tokens m)
    ∙ ap (λ ts. old ++ ts) (sym (two_parts ms (m ∷ []) ∙ ap (λ ts. flat_map member_tokens ms ++ ts) (append-nil (member_tokens m))))

-- a member whose value is written behind its name
pub named_member : (old named after : List Token) (name : List ℕ) (value : Json) → named ≡ old ++ key name ∷ [] → after ≡ named ++ json_tokens value
    → after ≡ old ++ member_tokens (name, value)
named_member old named after name value first then =
    then ∙ ap (λ ts. ts ++ json_tokens value) first ∙ append_assoc old (key name ∷ []) (json_tokens value)

-- parts that are written one after another
pub more_parts : (old before after : List Token) (a b : List (List ℕ × Json)) → before ≡ old ++ flat_map member_tokens a
    → after ≡ before ++ flat_map member_tokens b → after ≡ old ++ flat_map member_tokens (a ++ b)
more_parts old before after a b first then =
    then ∙ ap (λ ts. ts ++ flat_map member_tokens b) first ∙ append_assoc old (flat_map member_tokens a) (flat_map member_tokens b)
    ∙ ap (λ ts. old ++ ts) (sym (two_parts a b))

-- values of a list, one after another
pub mapped : {X : Type 0} (f : X → Json) (xs : List X) → flat_map json_tokens (map f xs) ≡ flat_map (λ x. json_tokens (f x)) xs
mapped f [] = refl
mapped f (x ∷ xs) = ap (λ ts. json_tokens (f x) ++ ts) (mapped f xs)

-- what is told of one more number
pub number_more : (told : ℕ → List Token) (start before after : List Token) (from number : ℕ) → from ≤ number
    → before ≡ start ++ flat_map told (range_with_len from (number - from)) → after ≡ before ++ told number
    → after ≡ start ++ flat_map told (range_with_len from (number + 1 - from))
number_more told start before after from number order so_far next =
    let longer : number + 1 - from ≡ number - from + 1 = omega arith in
    let behind : from + (number - from) ≡ number = omega arith in
    let parts = ap (range_with_len from) longer ∙ (range-append from (number - from) 1 ∙ ap (λ n. range_with_len from (number - from) ++ n ∷ []) behind) in
    let one_more = flat_map_more told start (range_with_len from (number - from)) number in
    next ∙ ap (λ ts. ts ++ told number) so_far ∙ one_more ∙ ap (λ ns. start ++ flat_map told ns) (sym parts)

-- what follows of an answer
pub ok_then : {T E : Type 0} (P Q : T → Type 0) (r : Result T E) → ((x : T) → P x → Q x) → IfOk r P → IfOk r Q
ok_then P Q (Ok x) more is = more x is
ok_then P Q (Err e) more is = is
