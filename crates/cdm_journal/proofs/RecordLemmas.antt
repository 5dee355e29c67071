-- Records that spell updates.
use Rattle.std.proofs.Common.{◌≡◌, ◌<◌, ◌≤◌, ◌+◌, ℕ, true, false, List, [], ◌∷◌, ◌++◌, length, map, Option, Some, None, Result, Ok, Err}
use Rattle.std.proofs.{Common.{refl, sym, ap, subst, arith, inl, inr, length-append}, lemmas.Bool.{cases_Bool, leb-false, or_parts}}
use Rattle.std.proofs.lemmas.{List.Elements.{All-nil, All-cons}, Slice.Eq.bytes_eq-Decides}
use Rattle.std.specs.{Prelude.{bytes_eq, codes, is_ok, is_some, option_map}, List.{All, find}}
use Rattle.cdm_time.specs.declared.calendar.CalendarDate.{CalendarDate}
use Rattle.cdm_flight.specs.{Accepted.{after_one, is_full, refusal}, Journal.AirportRows, declared.role.Role.Role}
use Rattle.cdm_flight.specs.declared.{update.Update.Update, word.RefusalWord.RefusalWord}
use Rattle.cdm_flight.specs.declared.update.Update.TheVariants as update
use Rattle.cdm_flight.specs.declared.word.RefusalWord.TheVariants as word
use Rattle.cdm_plan.proofs.JournalFacts.{accepted_is}
use Rattle.cdm_day.proofs.BatchLemmas.{good_from}
use Rattle.cdm_kinds.specs.{Kinds.{all_kinds, kind_name, kind_named}, declared.kind.Kind.Kind}
use Rattle.cdm_files.specs.{Parsing.{parse_of, with_role}, Refused.{Spelled, if_refused, refused_in}, Roles.{named_roles, role_of}}

-- Words.

-- what holds of the words of all roles holds of a text that names one, and so with kinds
module _ (P : List ℕ → Type 0) (x : List ℕ) where
  abbrev EachWord : List (List ℕ × Role) → Type 0
  EachWord [] = Unit {0}
  EachWord (named ∷ later) = P named.0 × EachWord later

  among : (roles : List (List ℕ × Role)) → EachWord roles → is_some (option_map (λ (named : List ℕ × Role). named.1) (find (λ named. bytes_eq x named.0) roles)) ≡ true → P x
  among [] each is = cc
  among (named ∷ later) each is = elim (cases_Bool (bytes_eq x named.0)) [
    | inl same ↦ subst P (sym ((bytes_eq-Decides x named.0).0 same)) each.0
    | inr differs ↦ among later each.1 (rw differs at is)
  ]

  pub of-role : P (codes "AO") → P (codes "GH") → P (codes "AP") → P (codes "ATC") → P (codes "NM") → is_some (role_of x) ≡ true → P x
  unfolding role_of
  of-role ao gh ap atc nm = among named_roles (ao, (gh, (ap, (atc, (nm, tt)))))

  found : ((kind : Kind) → P (kind_name kind)) → (kinds : List Kind) → is_some (find (λ kind. bytes_eq (kind_name kind) x) kinds) ≡ true → P x
  found each [] is = cc
  found each (kind ∷ kinds) is = elim (cases_Bool (bytes_eq (kind_name kind) x)) [
    | inl same ↦ subst P ((bytes_eq-Decides (kind_name kind) x).0 same) (each kind)
    | inr differs ↦ found each kinds (rw differs at is)
  ]

  pub of-kind : ((kind : Kind) → P (kind_name kind)) → is_some (kind_named x) ≡ true → P x
  unfolding kind_named
  of-kind each = found each all_kinds

-- Records.

-- a record spells an update
abbrev pub Spells : CalendarDate → List (List ℕ) → Type 0
Spells day fields = is_ok (parse_of day fields) ≡ true

-- so its first field names a role, and the others make an update
pub both-spelled : (role : Option Role) (r : Result Update RefusalWord) → is_ok (with_role role r) ≡ true → (is_some role ≡ true) × (is_ok r ≡ true)
both-spelled (Some role) (Ok u) is = (refl, refl)
both-spelled (Some role) (Err w) is = cc
both-spelled None (Err word.Fields) is = cc
both-spelled None r is = cc

none-refused : (number : ℕ) (word : Option RefusalWord) (later : List (ℕ × RefusalWord)) → if_refused number word ++ later ≡ [] → (word ≡ None) × (later ≡ [])
none-refused number None later none = (refl, none)
none-refused number (Some word) later none = cc

-- Records of which none is refused.

-- FULL refuses an update behind the 20,000th
room : (g : AirportRows) (a : List Update) (u : Update) → is_full g a u ≡ false → length a < 20000
room g a (update.Flt f p) free = leb-false 20000 (length a) (or_parts _ _ free).0
room g a (update.Taxi place r minutes) free = leb-false 20000 (length a) (or_parts _ _ free).0
room g a _ free = leb-false 20000 (length a) free

-- where none of these records is refused, each spells an update, and the journal has room for them
pub each-taken : (g : AirportRows) (a : List Update) (number : ℕ) (records : List (List (List ℕ))) → refused_in g a number (map (parse_of g.day) records) ≡ []
    → length a ≤ 20000 → All (Spells g.day) records × (length a + length records ≤ 20000)
unfolding refused_in
each-taken g a number [] none few = (All-nil (Spells g.day), omega (arith, few))
each-taken g a number (fields ∷ records) none few = by (parse_of g.day fields) refl none (λ b. each-taken g b (number + 1) records)
  where
    by : (r : Spelled) → parse_of g.day fields ≡ r → refused_in g a number (r ∷ map (parse_of g.day) records) ≡ []
        → ((b : List Update) → refused_in g b (number + 1) (map (parse_of g.day) records) ≡ [] → length b ≤ 20000 → All (Spells g.day) records × (length b + length records ≤ 20000))
        → All (Spells g.day) (fields ∷ records) × (length a + length (fields ∷ records) ≤ 20000)
    by (Err word) is none more = cc
    by (Ok p) is none more =
        let parts = none-refused number (refusal g a p.0 p.1) _ none in
        let below = room g a p.1 (accepted_is g a p.1 (good_from (record { airport = g; journal = a }) p.0 p.1 parts.0)).room in
        let next : after_one g a p ≡ a ++ p.1 ∷ [] = rw parts.0 refl in
        let one = length-append a (p.1 ∷ []) in
        let later = more (a ++ p.1 ∷ []) (rw next at parts.1) (omega (arith, one, below)) in
        (All-cons (Spells g.day) fields records (ap is_ok is) later.0, omega (arith, later.1, one))
