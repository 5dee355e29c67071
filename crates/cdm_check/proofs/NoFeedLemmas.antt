-- All records of a file that is no feed are refused.
use Rattle.std.proofs.Common.{◌≡◌, ◌∙◌, ◌&&◌, ℕ, ◌+◌, suc, Bool, true, false, List, [], ◌∷◌, length, map, is_none, is_err, refl, ap, Option}
use Rattle.std.proofs.{Common.{Some, None, Result, Ok, Err}, lemmas.Bool.false≢true, lemmas.List.length-map}
use Rattle.std.specs.List.{list_all}
use Rattle.csv.specs.Records.{field_at}
use Rattle.cdm_time.specs.declared.calendar.CalendarDate.{CalendarDate}
use Rattle.cdm_flight.specs.{Journal.AirportRows, declared.role.Role.Role, declared.update.Update.Update}
use Rattle.cdm_flight.specs.declared.word.RefusalWord.{RefusalWord}
use Rattle.cdm_flight.specs.declared.word.RefusalWord.TheVariants as word
use Rattle.cdm_files.specs.{FeedDay.refusals_in, Kinds.update_of, Parsing.{parse_of, with_role}, Records.records_of}
use Rattle.cdm_files.specs.{Refused.{Spelled, refused_in}, Roles.role_of}
use Rattle.cdm_check.specs.Findings.{has_no_role, is_no_feed}

without_role : (r : Result Update RefusalWord) → is_err (with_role None r) ≡ true
without_role (Ok u) = refl
without_role (Err word.Fields) = refl
without_role _ = refl

by-role : (role : Option Role) (r : Result Update RefusalWord) → is_none role ≡ true → is_err (with_role role r) ≡ true
by-role None r none = without_role r
by-role (Some role) r none = absurd (false≢true none)

-- a record without a role spells no update
spells-none : (day : CalendarDate) (fields : List (List ℕ)) → has_no_role fields ≡ true → is_err (parse_of day fields) ≡ true
unfolding parse_of field_at
spells-none day (role ∷ kind ∷ fields) none = by-role (role_of role) (update_of day kind fields) none
spells-none day _ none = refl

each : (a b : Bool) → (a && b) ≡ true → (a ≡ true) × (b ≡ true)
each true b h = (refl, h)
each false b h = absurd (false≢true h)

spell-none : (day : CalendarDate) (records : List (List (List ℕ))) → list_all has_no_role records ≡ true → list_all is_err (map (parse_of day) records) ≡ true
spell-none day [] all = refl
spell-none day (fields ∷ later) all =
    let both = each (has_no_role fields) (list_all has_no_role later) all in
    rw (spells-none day fields both.0, spell-none day later both.1) refl

all-refused : (g : AirportRows) (n : ℕ) (spelled : List Spelled) → list_all is_err spelled ≡ true → length (refused_in g [] n spelled) ≡ length spelled
unfolding refused_in
all-refused g n [] all = refl
all-refused g n (Err w ∷ later) all = ap suc (all-refused g (n + 1) later all)
all-refused g n (Ok p ∷ later) all = absurd (false≢true all)

pub no_feed : (g : AirportRows) (bytes : List ℕ) → is_no_feed bytes ≡ true → length (refusals_in g bytes) ≡ length (records_of bytes)
unfolding is_no_feed refusals_in
no_feed g bytes is =
    let none = (each _ (list_all has_no_role (records_of bytes)) is).1 in
    all-refused g 1 (map (parse_of g.day) (records_of bytes)) (spell-none g.day (records_of bytes) none) ∙ length-map (records_of bytes) (parse_of g.day)
