-- A line without a line feed has none in the fields of its records.
use Rattle.std.proofs.Common.{arith, ◌≡◌, ◌||◌, ◌==◌, ℕ, zero, suc, Bool, false, List, [], ◌∷◌, Option, Some, None, refl, inl, inr}
use Rattle.std.proofs.lemmas.{Grind.common_steps, Bool.{cases_Bool, or_from, or_parts}, List.Folds.list_any-append}
use Rattle.std.specs.List.{list_any}
use Rattle.csv.specs.Machine.{Read, field_after, fields_after, is_end, next_record, step}
use Rattle.csv.specs.{Reading.{default_config, records_from, records_next, strip_bom}, declared.parser.Action.Action}
use Rattle.csv.specs.declared.parser.State.{State}
use Rattle.csv.specs.declared.parser.Action.TheVariants as act
use Rattle.csv.specs.declared.parser.State.TheVariants as st
use Rattle.cdm_files.specs.Records.{records_of}
use Rattle.cdm_journal.specs.{Journal.has_line_feed, Lines.{line_record, record_among}, Lines.LineRecord.One}

-- no field has one
abbrev Feedless : List (List ℕ) → Type 0
Feedless fields = list_any has_line_feed fields ≡ false

after : (a : Action) (c : ℕ) (fields : List (List ℕ)) (field : List ℕ) → (c == 10) ≡ false → Feedless fields → has_line_feed field ≡ false
    → Feedless (fields_after a fields field) × (has_line_feed (field_after a c field) ≡ false)
after act.Copy c fields field other none last = (none, simp list_any-append (rw (last, other) refl))
after act.Skip c fields field other none last = (none, last)
after _ c fields field other none last = (simp list_any-append (rw (none, last) refl), refl)

-- what was read, or what is left, has one
abbrev has_feed : Option Read → Bool
has_feed None = false
has_feed (Some read) = list_any has_line_feed read.0 || has_line_feed read.2

next-feedless : (xs : List ℕ) (s : State) (fields : List (List ℕ)) (field : List ℕ) → has_line_feed xs ≡ false → Feedless fields → has_line_feed field ≡ false
    → has_feed (next_record default_config s fields field xs) ≡ false
unfolding next_record
next-feedless [] s fields field none are last = grind (arith, common_steps, list_any-append)
next-feedless (c ∷ xs) s fields field none are last =
    let parts = or_parts (c == 10) (has_line_feed xs) none in
    let o = step default_config s c in
    let next = after o.1 c fields field parts.0 are last in
    elim (cases_Bool (is_end o.1)) [
      | inl ends ↦ rw ends (rw (next.0, parts.1) refl)
      | inr on ↦ rw on (next-feedless xs o.0 _ _ parts.1 next.0 next.1)
    ]

records-feedless : (n : ℕ) (s : State) (xs : List ℕ) → has_line_feed xs ≡ false → list_any (list_any has_line_feed) (records_from default_config n s xs) ≡ false
unfolding records_from
records-feedless zero s xs none = refl
records-feedless (suc n) s xs none = of (next_record default_config s [] [] xs) (next-feedless xs s [] [] none refl refl) (records-feedless n)
  where
    of : (o : Option Read) → has_feed o ≡ false → ((t : State) (ys : List ℕ) → has_line_feed ys ≡ false → list_any (list_any has_line_feed) (records_from default_config n t ys) ≡ false)
        → list_any (list_any has_line_feed) (records_next (records_from default_config n) o) ≡ false
    of None is later = refl
    of (Some read) is later = let parts = or_parts (list_any has_line_feed read.0) _ is in or_from _ _ parts.0 (later read.1 read.2 parts.1)

strip-feedless : (xs : List ℕ) → has_line_feed xs ≡ false → has_line_feed (strip_bom xs) ≡ false
unfolding strip_bom
strip-feedless (a ∷ b ∷ c ∷ rest) none = grind (arith, common_steps)
strip-feedless _ none = none

among-feedless : (records : List (List (List ℕ))) (fields : List (List ℕ)) → record_among records ≡ One fields → list_any (list_any has_line_feed) records ≡ false → Feedless fields
among-feedless (x ∷ []) fields one none = grind (arith, common_steps)
among-feedless _ fields one none = cc

pub one-feedless : (line : List ℕ) (fields : List (List ℕ)) → has_line_feed line ≡ false → line_record line ≡ One fields → Feedless fields
unfolding line_record records_of
one-feedless line fields none one = among-feedless (records_of line) fields one (records-feedless _ st.StartRecord (strip_bom line) (strip-feedless line none))
