-- What is printed of tokens has no line feed.
use Rattle.std.proofs.Common.{◌≡◌, ◌∙◌, ℕ, zero, suc, ◌+◌, ◌/◌, ◌%◌, ◌<◌, ◌≤◌, ◌==◌, ◌⊎◌, inl, inr, Bool, true, false, cond, List, [], ◌∷◌}
use Rattle.std.proofs.{Common.{◌++◌, ap, arith, rules, decimal, refl}, lemmas.Bool.{cases_eq, cases_lt, ne_eqb}}
use Rattle.std.{proofs.lemmas.List.Sums.sum_by-append, specs.Prelude.{⊤, count_by}}
use Rattle.std.specs.Fmt.{digit_glyph, digits, digits_onto}
use Rattle.json.specs.Json.{Json, null, boolean, number, string, array, object, Items, no_items, item, Members, no_members, member}
use Rattle.json.specs.{Print.{ends, escape, escape_byte, print_from, quoted, separator, token_text}, Token.Token}
use Rattle.json.{specs.Tree.{items_tokens, json_tokens, members_tokens}, proofs.Printed.Strings.escape_byte_plain}

-- how many line feeds a text has
abbrev pub feeds : List ℕ → ℕ
feeds text = count_by (λ byte. byte == 10) text

pub feeds-append : (a b : List ℕ) → feeds (a ++ b) ≡ feeds a + feeds b
feeds-append a b = sum_by-append (λ byte. cond (byte == 10) 1 0) a b

-- none in the first part, nor in the second
pub none_append : (a b : List ℕ) → feeds a ≡ 0 → feeds b ≡ 0 → feeds (a ++ b) ≡ 0
none_append a b x y = omega (arith, feeds-append a b)

pub none_cons : (byte : ℕ) (text : List ℕ) → (byte ≡ 10 → ⊥) → feeds text ≡ 0 → feeds (byte ∷ text) ≡ 0
none_cons byte text other rest = none_append (byte ∷ []) text (rw (ne_eqb byte 10 other) refl) rest

-- digits

glyph_none : (d : ℕ) → digit_glyph false d ≡ 10 → ⊥
glyph_none d = grind arith

onto_none : (k n : ℕ) (acc : List ℕ) → feeds acc ≡ 0 → feeds (digits_onto k 10 false n acc) ≡ 0
onto_none zero n acc h = h
onto_none (suc k) n acc h =
    let more : feeds (digit_glyph false (n % 10) ∷ acc) ≡ 0 = none_cons (digit_glyph false (n % 10)) acc (glyph_none (n % 10)) h in
    by (n / 10 == 0) more (onto_none k (n / 10) (digit_glyph false (n % 10) ∷ acc) more)
  where
    by : (b : Bool) → feeds (digit_glyph false (n % 10) ∷ acc) ≡ 0 → feeds (digits_onto k 10 false (n / 10) (digit_glyph false (n % 10) ∷ acc)) ≡ 0
        → feeds (cond b (digit_glyph false (n % 10) ∷ acc) (digits_onto k 10 false (n / 10) (digit_glyph false (n % 10) ∷ acc))) ≡ 0
    by true x y = x
    by false x y = y

pub decimal_none : (n : ℕ) → feeds (decimal n) ≡ 0
unfolding digits
decimal_none n = onto_none 64 n [] refl

-- strings

-- the escapes of the bytes below n have none
abbrev Below : ℕ → Type 0
Below zero = ⊤
Below (suc n) = (feeds (escape_byte n) ≡ 0) × Below n

one_below : (n : ℕ) → Below n → (x : ℕ) → x < n → feeds (escape_byte x) ≡ 0
one_below zero h x small = absurd (omega arith)
one_below (suc n) h x small = by (cases_eq x n) (one_below n h.1 x)
  where
    by : (x ≡ n) ⊎ (x ≡ n → ⊥) → (x < n → feeds (escape_byte x) ≡ 0) → feeds (escape_byte x) ≡ 0
    by (inl e) rest = ap (λ y. feeds (escape_byte y)) e ∙ h.0
    by (inr ne) rest = rest (omega arith)

-- a control is escaped
controls : Below 32
unfolding escape_byte
controls = search rules

control_none : (x : ℕ) → x < 32 → feeds (escape_byte x) ≡ 0
control_none x small = one_below 32 controls x small

quote_none : feeds (escape_byte 34) ≡ 0
unfolding escape_byte
quote_none = refl

backslash_none : feeds (escape_byte 92) ≡ 0
unfolding escape_byte
backslash_none = refl

byte_none : (x : ℕ) → feeds (escape_byte x) ≡ 0
byte_none x = by (cases_eq x 34) (cases_eq x 92) (cases_lt x 32)
  where
    by : (x ≡ 34) ⊎ (x ≡ 34 → ⊥) → (x ≡ 92) ⊎ (x ≡ 92 → ⊥) → (x < 32) ⊎ (32 ≤ x) → feeds (escape_byte x) ≡ 0
    by (inl e) b c = ap (λ y. feeds (escape_byte y)) e ∙ quote_none
    by (inr q) (inl e) c = ap (λ y. feeds (escape_byte y)) e ∙ backslash_none
    by (inr q) (inr b) (inl small) = control_none x small
    by (inr q) (inr b) (inr high) = ap feeds (escape_byte_plain x q b high) ∙ none_cons x [] (λ e. omega (arith, e, high)) refl

escape_none : (s : List ℕ) → feeds (escape s) ≡ 0
escape_none [] = refl
escape_none (x ∷ s) = none_append (escape_byte x) (escape s) (byte_none x) (escape_none s)

quoted_none : (s : List ℕ) → feeds (quoted s) ≡ 0
quoted_none s = none_cons 34 (escape s ++ 34 ∷ []) (λ e. omega (arith, e)) (none_append (escape s) (34 ∷ []) (escape_none s) refl)

-- tokens

-- the texts of the numbers have none
abbrev pub IsClean : Token → Type 0
IsClean (Token.number s) = feeds s ≡ 0
IsClean other = ⊤

abbrev pub AreClean : List Token → Type 0
AreClean [] = ⊤
AreClean (t ∷ ts) = IsClean t × AreClean ts

clean-append : (a b : List Token) → AreClean a → AreClean b → AreClean (a ++ b)
clean-append [] b x y = y
clean-append (t ∷ a) b x y = (x.0, clean-append a b x.1 y)

token_none : (t : Token) → IsClean t → feeds (token_text t) ≡ 0
token_none (Token.key s) h = none_append (quoted s) (58 ∷ []) (quoted_none s) refl
token_none (Token.string s) h = quoted_none s
token_none (Token.number s) h = h
token_none (Token.boolean true) h = refl
token_none _ h = refl

comma_none : (b : Bool) → feeds (cond b (44 ∷ []) []) ≡ 0
comma_none true = refl
comma_none false = refl

pub print_none : (after : Bool) (ts : List Token) → AreClean ts → feeds (print_from after ts) ≡ 0
unfolding print_from
print_none after [] h = refl
print_none after (t ∷ ts) h =
    none_append (separator after t) (token_text t ++ print_from (ends t) ts) (comma_none _)
    (none_append (token_text t) (print_from (ends t) ts) (token_none t h.0) (print_none (ends t) ts h.1))

-- values

abbrev mutual
  pub HasClean : Json → Type 0
  HasClean null = ⊤
  HasClean (boolean b) = ⊤
  HasClean (number s) = feeds s ≡ 0
  HasClean (string s) = ⊤
  HasClean (array js) = ItemsClean js
  HasClean (object ms) = MembersClean ms

  pub ItemsClean : Items → Type 0
  ItemsClean no_items = ⊤
  ItemsClean (item j js) = HasClean j × ItemsClean js

  pub MembersClean : Members → Type 0
  MembersClean no_members = ⊤
  MembersClean (member k j ms) = HasClean j × MembersClean ms

mutual
  pub clean_tokens : (j : Json) → HasClean j → AreClean (json_tokens j)
  clean_tokens null h = (tt, tt)
  clean_tokens (boolean b) h = (tt, tt)
  clean_tokens (number s) h = (h, tt)
  clean_tokens (string s) h = (tt, tt)
  clean_tokens (array js) h = (tt, clean_items js h)
  clean_tokens (object ms) h = (tt, clean_members ms h)

  clean_items : (js : Items) → ItemsClean js → AreClean (items_tokens js)
  clean_items no_items h = (tt, tt)
  clean_items (item j js) h = clean-append (json_tokens j) (items_tokens js) (clean_tokens j h.0) (clean_items js h.1)

  clean_members : (ms : Members) → MembersClean ms → AreClean (members_tokens ms)
  clean_members no_members h = (tt, tt)
  clean_members (member k j ms) h = (tt, clean-append (json_tokens j) (members_tokens ms) (clean_tokens j h.0) (clean_members ms h.1))

-- the print of a value
pub value_none : (j : Json) → HasClean j → feeds (print_from false (json_tokens j)) ≡ 0
value_none j h = print_none false (json_tokens j) (clean_tokens j h)
