-- Lines that are read byte by byte.
use Rattle.std.proofs.Common.{◌≡◌, ◌≢◌, ◌≤◌, ◌<◌, ◌+◌, ◌∙◌, ◌==◌, ℕ, true, false, nat_le, List, [], ◌∷◌, ◌++◌, length, take, Option, None}
use Rattle.std.proofs.{Common.{Some, IfSome, refl, sym, ap, subst, arith, append_assoc, inl, inr}, lemmas.Bool.{le-leb, ne_eqb}}
use Rattle.std.proofs.lemmas.{Bool.Decides.leb_tells, List.{append-nil, length-append, length-take-le, take-append-le, take_all}}
use Rattle.std.{proofs.KnownBytes.Consumes-trans, specs.Io.BufRead.{DropsThrough, drop_through}, specs.Io.KnownBytes.{Consumes, IsAtEnd}}
use Rattle.std.specs.List.{AllByRecursion}
use Rattle.cdm_port.specs.{Event.{Event, line_limit}, Event.Event.{Broken, Line}, Heard.{IsLine, first_line, heard_as, heard_in}}
use Rattle.cdm_port.specs.inner.Reading.{line_with}

abbrev pub HasNoLf : List ℕ → Type 0
HasNoLf bytes = AllByRecursion (λ byte. byte ≢ 10) bytes

pub not_empty : (line : List ℕ) → (length line == 0) ≡ false → line ≢ []
not_empty [] some = cc some
not_empty (byte ∷ line) some = λ is. cc

no_lf_more : (bytes : List ℕ) (byte : ℕ) → HasNoLf bytes → byte ≢ 10 → HasNoLf (bytes ++ byte ∷ [])
no_lf_more [] byte none other = (other, tt)
no_lf_more (b ∷ bs) byte none other = (none.0, no_lf_more bs byte none.1 other)

-- Where a line feed is.

line_ends : (given rest : List ℕ) → HasNoLf given → first_line (given ++ 10 ∷ rest) ≡ Some given
unfolding first_line
line_ends [] rest none = refl
line_ends (b ∷ bs) rest none = rw (ne_eqb b 10 none.0, line_ends bs rest none.1) refl

no_end : (given : List ℕ) → HasNoLf given → first_line given ≡ None
unfolding first_line
no_end [] none = refl
no_end (b ∷ bs) none = rw (ne_eqb b 10 none.0, no_end bs none.1) refl

rest_behind : (given rest : List ℕ) → HasNoLf given → drop_through 10 (given ++ 10 ∷ rest) ≡ rest
rest_behind [] rest none = refl
rest_behind (b ∷ bs) rest none = rw (ne_eqb b 10 none.0) (rest_behind bs rest none.1)

no_rest : (given : List ℕ) → HasNoLf given → drop_through 10 given ≡ []
no_rest [] none = refl
no_rest (b ∷ bs) none = rw (ne_eqb b 10 none.0) (no_rest bs none.1)

-- The bytes that were read, of which the line has the first.

abbrev pub kept : List ℕ → List ℕ
kept given = take (line_limit + 1) given

pub record ReadSoFar (before now : Option (List ℕ)) (line : List ℕ) : Type 0 where
  pub given : List ℕ
  pub consumed : Consumes before now given
  pub none : HasNoLf given
  pub keeps : line ≡ kept given

kept_few : (given : List ℕ) → length given ≤ line_limit → kept given ≡ given
kept_few given few = take_all (line_limit + 1) given (omega (arith, few))

kept_many : (given : List ℕ) → line_limit < length given → length (kept given) ≡ line_limit + 1
kept_many given many = length-take-le (line_limit + 1) given (omega (arith, many))

-- a line that isn't too long has all bytes
all_kept : (given : List ℕ) → length (kept given) ≤ line_limit → length given ≤ line_limit
all_kept given few = grind (arith, kept_many)

-- one that is too long shows it
many_kept : (given : List ℕ) → line_limit < length (kept given) → line_limit < length given
many_kept given many = grind (arith, kept_few)

not_few : (count : ℕ) → line_limit < count → nat_le count line_limit ≡ false
not_few count many = elim (leb_tells count line_limit) [ inl is ↦ let few = is.1 in absurd (omega (arith, many, few)) | inr is ↦ is.0 ]

kept_more : (given : List ℕ) (byte : ℕ) → line_with (kept given) byte ≡ kept (given ++ byte ∷ [])
kept_more given byte = elim (leb_tells (length given) line_limit) [
  | inl is ↦
      let few = is.1 in
      rw (kept_few given few, is.0) (sym (take_all (line_limit + 1) (given ++ byte ∷ []) (omega (arith, few, length-append given (byte ∷ [])))))
  | inr is ↦
      let many = is.1 in
      let long = kept_many given many in
      rw (not_few (length (kept given)) (omega (arith, long))) (sym (take-append-le (line_limit + 1) given (byte ∷ []) (omega (arith, many))))
]

module _ (before now next : Option (List ℕ)) (line : List ℕ) (so_far : ReadSoFar before now line) where
  abbrev given : List ℕ
  given = so_far.given

  -- one byte more
  pub one_more : (byte : ℕ) (new : List ℕ) → Consumes now next (byte ∷ []) → byte ≢ 10 → new ≡ line_with line byte → ReadSoFar before next new
  one_more byte new consumes other is = record {
    given = given ++ byte ∷ [];
    consumed = Consumes-trans before now next given (byte ∷ []) so_far.consumed consumes;
    none = no_lf_more given byte so_far.none other;
    keeps = is ∙ ap (λ (l : List ℕ). line_with l byte) so_far.keeps ∙ kept_more given byte;
  }

  -- a line feed
  module _ (consumes : Consumes now next (10 ∷ [])) where
    up_to : Consumes before next (given ++ 10 ∷ [])
    up_to = Consumes-trans before now next given (10 ∷ []) so_far.consumed consumes

    pub through : DropsThrough before next 10
    through = by before next up_to
      where
        by : (b n : Option (List ℕ)) → Consumes b n (given ++ 10 ∷ []) → DropsThrough b n 10
        by None n is = tt
        by (Some xs) (Some ys) is = ap Some (sym (ap (drop_through 10) (is ∙ append_assoc given (10 ∷ []) ys) ∙ rest_behind given ys so_far.none))
        by (Some xs) None is = absurd is

    abbrev Heard : Event → Type 0
    Heard event = IfSome before (λ bytes. event ≡ heard_in bytes)

    heard : (event : Event) → event ≡ heard_as (Some given) → Heard event
    heard event is = by before next up_to
      where
        begun : (front rest : List ℕ) → heard_in (front ++ 10 ∷ rest) ≡ heard_as (first_line (front ++ 10 ∷ rest))
        begun [] rest = refl
        begun (b ∷ bs) rest = refl

        by : (b n : Option (List ℕ)) → Consumes b n (given ++ 10 ∷ []) → IfSome b (λ bytes. event ≡ heard_in bytes)
        by None n all = tt
        by (Some xs) (Some ys) all =
            is ∙ sym (ap heard_in (all ∙ append_assoc given (10 ∷ []) ys) ∙ begun given ys ∙ ap heard_as (line_ends given ys so_far.none))
        by (Some xs) None all = absurd all

    pub line_heard : length line ≤ line_limit → Heard (Line line) × IsLine line
    line_heard few =
        let short = all_kept given (rw so_far.keeps at few) in
        let same : line ≡ given = so_far.keeps ∙ kept_few given short in
        let is_short : nat_le (length given) line_limit ≡ true = le-leb (length given) line_limit short in
        let told : heard_as (Some given) ≡ Line given = rw is_short refl in
        (heard (Line line) (ap Line same ∙ sym told), (few, subst HasNoLf (sym same) so_far.none))

    pub long_passed : line_limit < length line → Heard Broken
    long_passed many =
        let long = many_kept given (rw so_far.keeps at many) in
        let is_long : nat_le (length given) line_limit ≡ false = not_few (length given) long in
        heard Broken (rw is_long refl)

  -- the end
  module _ (consumes : Consumes now next []) (ended : IsAtEnd next) where
    all_read : Consumes before next (given ++ [])
    all_read = Consumes-trans before now next given [] so_far.consumed consumes

    pub through_end : DropsThrough before next 10
    through_end = by before next all_read ended
      where
        by : (b n : Option (List ℕ)) → Consumes b n (given ++ []) → IsAtEnd n → DropsThrough b n 10
        by None n is end = tt
        by (Some xs) (Some ys) is end =
            ap Some (end ∙ sym (ap (drop_through 10) (rw (end, append-nil, append-nil) at is) ∙ no_rest given so_far.none))
        by (Some xs) None is end = absurd is

    pub end_heard : (event : Event) → event ≡ heard_in given → IfSome before (λ bytes. event ≡ heard_in bytes)
    end_heard event is = by before next all_read ended
      where
        by : (b n : Option (List ℕ)) → Consumes b n (given ++ []) → IsAtEnd n → IfSome b (λ bytes. event ≡ heard_in bytes)
        by None n all end = tt
        by (Some xs) (Some ys) all end = is ∙ sym (ap heard_in (rw (end, append-nil, append-nil) at all))
        by (Some xs) None all end = absurd all

    -- a last line that no line feed ends
    pub broken_heard : line ≢ [] → IfSome before (λ bytes. Broken ≡ heard_in bytes)
    broken_heard some = end_heard Broken (by given so_far.none (λ none. some (so_far.keeps ∙ ap kept none)))
      where
        by : (bytes : List ℕ) → HasNoLf bytes → bytes ≢ [] → Broken ≡ heard_in bytes
        by [] none is = absurd (is refl)
        by (b ∷ bs) none is = sym (ap heard_as (no_end (b ∷ bs) none))
