-- A record is of the kind that it names, and has as many fields as that kind.
use Rattle.cdm_files.proofs.Words.{◌≡◌, ◌≢◌, ◌∙◌, ◌+◌, ◌-◌, ◌<◌, ◌≤◌, ℕ, zero, suc, List, [], ◌∷◌, length, drop, take, Option, Some, None}
use Rattle.cdm_files.proofs.Words.{Result, Ok, Err, ap, refl, sym, subst, arith, length-drop, field_at, CalendarDate, Update, RefusalWord}
use Rattle.cdm_files.specs.{Fields.{and_then, field, of_four, of_one, of_three}, Kinds.{update_by, update_of}}
use Rattle.cdm_files.specs.{Parsing.{parse_of, with_role}, Roles.role_of}
use Rattle.std.specs.Prelude.{ok_or}
use Rattle.cdm_flight.specs.declared.role.Role.{Role}
use Rattle.cdm_flight.specs.declared.word.RefusalWord.TheVariants as word
use Rattle.cdm_kinds.specs.{Kinds.{fields_of, kind_named, kind_of}, declared.kind.Kind.Kind}
use Rattle.cdm_kinds.specs.declared.kind.Kind.TheVariants as kind

-- The number of fields.

-- a kind takes as many fields as it has, and FIELDS refuses another number of them
refused-count : (day : CalendarDate) (kind : Kind) (fields : List (List ℕ)) → length fields ≢ length (fields_of kind) → update_by day kind fields ≡ Err word.Fields
refused-count day kind.Flt (a ∷ b ∷ c ∷ d ∷ e ∷ fields) differs = refl
refused-count day _ (a ∷ b ∷ c ∷ d ∷ e ∷ fields) differs = refl
refused-count day _ _ differs = grind arith

-- a field at a place is one of those behind the first
behind : (first place k : ℕ) (fields : List (List ℕ)) → k ≡ first + place → field fields k ≡ field (drop first fields) place
unfolding field_at
behind zero place k fields is = let same : k ≡ place = omega arith in ap (field fields) same
behind (suc first) place k [] is = refl
behind (suc first) place zero (x ∷ fields) is = absurd (omega arith)
behind (suc first) place (suc k) (x ∷ fields) is = behind first place k fields (omega arith)

-- four fields at most are those at their places
at-places : (n : ℕ) (fields : List (List ℕ)) → length fields ≡ n → n ≤ 4 → take n (field fields 0 ∷ field fields 1 ∷ field fields 2 ∷ field fields 3 ∷ []) ≡ fields
unfolding field_at
at-places n (a ∷ b ∷ c ∷ d ∷ e ∷ fields) is few = absurd (omega arith)
at-places n _ is few = rw (← is) refl

at-most-four : (kind : Kind) → length (fields_of kind) ≤ 4
at-most-four kind.Flt = omega arith
at-most-four _ = omega arith

-- the same of the fields behind the first, as the code counts and reads them
pub other_number : (day : CalendarDate) (kind : Kind) (first : ℕ) (fields : List (List ℕ)) → length fields - first ≢ length (fields_of kind)
    → update_by day kind (drop first fields) ≡ Err word.Fields
other_number day kind first fields differs = refused-count day kind (drop first fields) (λ is. differs (sym (length-drop first fields) ∙ is))

pub own_number : (kind : Kind) (first : ℕ) (fields : List (List ℕ)) → length fields - first ≡ length (fields_of kind)
    → take (length (fields_of kind)) (field fields first ∷ field fields (first + 1) ∷ field fields (first + 2) ∷ field fields (first + 3) ∷ []) ≡ drop first fields
own_number kind first fields is =
    rw (behind first 0 first fields (omega arith), behind first 1 (first + 1) fields refl, behind first 2 (first + 2) fields refl, behind first 3 (first + 3) fields refl)
    (at-places (length (fields_of kind)) (drop first fields) (length-drop first fields ∙ is) (at-most-four kind))

-- a record of fewer fields than two, and of more
pub few_fields : (day : CalendarDate) (fields : List (List ℕ)) → length fields < 2 → parse_of day fields ≡ Err word.Fields
unfolding parse_of
few_fields day (a ∷ b ∷ fields) few = absurd (omega (arith, few))
few_fields day _ few = refl

pub more_fields : (day : CalendarDate) (fields : List (List ℕ)) → 2 ≤ length fields
    → parse_of day fields ≡ with_role (role_of (field fields 0)) (update_of day (field fields 1) (drop 2 fields))
unfolding parse_of field_at
more_fields day (a ∷ b ∷ fields) more = refl
more_fields day _ more = absurd (omega (arith, more))

of-role-other : (role : Option Role) (r : Result Update RefusalWord) → r ≡ Err word.Fields → with_role role r ≡ Err word.Fields
of-role-other (Some role) r is = ap (of_one (λ u. (role, u))) is
of-role-other None r is = ap (with_role None) is

-- as many as the table has, or FIELDS refuses it
pub wrong_count : (day : CalendarDate) (fields : List (List ℕ)) (kind : Kind) → kind_named (field fields 1) ≡ Some kind
    → length fields ≢ length (fields_of kind) + 2 → parse_of day fields ≡ Err word.Fields
unfolding parse_of update_of field_at
wrong_count day (role ∷ text ∷ fields) kind named differs =
    of-role-other (role_of role) _ (rw named (refused-count day kind fields (λ is. differs (omega (arith, is)))))
wrong_count day _ kind named differs = refl

-- The kind.

made-of : {A : Type 0} (f : A → Update) (k : Kind) (r : Result A RefusalWord) (u : Update) → ((x : A) → kind_of (f x) ≡ k) → of_one f r ≡ Ok u → kind_of u ≡ k
made-of f k (Ok a) u of is = let same : f a ≡ u = cc in subst (λ (v : Update). kind_of v ≡ k) same (of a)
made-of f k (Err w) u of is = cc

by-kind : (day : CalendarDate) (k : Kind) (fields : List (List ℕ)) (u : Update) → update_by day k fields ≡ Ok u → kind_of u ≡ k
unfolding of_three of_four
by-kind day kind.Flt (a ∷ b ∷ c ∷ d ∷ e ∷ fields) u is = cc
by-kind day _ (a ∷ b ∷ c ∷ d ∷ e ∷ fields) u is = cc
by-kind day k _ u is = grind (arith, made-of)

named-made : (day : CalendarDate) (found : Option Kind) (fields : List (List ℕ)) (u : Update)
    → and_then (ok_or found word.Kind) (λ kind. update_by day kind fields) ≡ Ok u → found ≡ Some (kind_of u)
named-made day (Some k) fields u is = ap Some (sym (by-kind day k fields u is))
named-made day None fields u is = cc

with-role-made : (role : Option Role) (r : Result Update RefusalWord) (x : Role) (u : Update) → with_role role r ≡ Ok (x, u) → r ≡ Ok u
with-role-made (Some role) (Ok v) x u is = let pair : (role, v) ≡ (x, u) = cc in ap (λ (p : Role × Update). Ok p.1) pair
with-role-made (Some role) (Err w) x u is = cc
with-role-made None (Err word.Fields) x u is = cc
with-role-made None r x u is = cc

-- it is that of the update
pub named_kind : (day : CalendarDate) (fields : List (List ℕ)) (role : Role) (u : Update) → parse_of day fields ≡ Ok (role, u)
    → kind_named (field fields 1) ≡ Some (kind_of u)
unfolding parse_of update_of field_at
named_kind day (x ∷ text ∷ fields) role u is = named-made day (kind_named text) fields u (with-role-made (role_of x) _ role u is)
named_kind day _ role u is = cc
