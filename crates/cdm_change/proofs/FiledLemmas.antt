-- What an airport file keeps of its runways.
use Rattle.std.proofs.Common.{◌≡◌, ◌≤◌, ◌+◌, ◌==◌, ◌∷◌, ℕ, Bool, true, false, not, ◌&&◌, List, [], length, map, All, Option, None, Some, Result, Ok, Err, refl, sym, ap, ◌∙◌, subst, arith, if◌then◌else◌}
use Rattle.std.proofs.lemmas.Bool.Decides.{nat_tests}
use Rattle.std.proofs.lemmas.List.Elements.{All-append, All-cons, All-map, All-nil, All-weaker}
use Rattle.std.specs.Option.{ok_or}
use Rattle.std.specs.Prelude.{⊤, IfOk, IsTrue, bytes_eq, codes, nat_le}
use Rattle.std.specs.Result.{result_map_both}
use Rattle.cdm_time.specs.Digits.{are_digits, number_in}
use Rattle.cdm_time.specs.Times.{day_of}
use Rattle.cdm_flight.specs.Accepted.{has_runway}
use Rattle.cdm_flight.specs.Cells.{is_cell_length}
use Rattle.cdm_flight.specs.Journal.{AirportRows}
use Rattle.cdm_flight.specs.Names.{same_name}
use Rattle.cdm_flight.specs.Spacing.{no_spacing, occupancy_of, with_occupancy}
use Rattle.cdm_flight.specs.Taxi.{is_one_stand_too_many, stands_in}
use Rattle.cdm_flight.specs.declared.airport.RunwayRow.{RunwayRow}
use Rattle.cdm_flight.specs.declared.group.Group.{Group}
use Rattle.cdm_flight.specs.declared.group.Group.TheVariants.{Light, Medium, Heavy}
use Rattle.cdm_flight.specs.declared.place.Place.{Place}
use Rattle.cdm_flight.specs.declared.spacing.Spacing.{Spacing}
use Rattle.cdm_flight.specs.declared.word.RefusalWord.{RefusalWord}
use Rattle.cdm_flight.specs.declared.word.RefusalWord.TheVariants as word
use Rattle.cdm_day.specs.Airport.{spaced, with_runway, with_space, with_taxi}
use Rattle.cdm_files.specs.AirportFile.{airport_in, airport_record_of, with_record}
use Rattle.cdm_files.specs.Fields.{and_then, both, field, from_to, number_field, of_one, of_three, refused_by_word}
use Rattle.cdm_files.specs.Files.{after_records}
use Rattle.cdm_files.specs.Records.{records_of}

-- whole cells of a runway fill an hour, and no flight occupies it for more than one
pub record KeepsHours (row : RunwayRow) : Type 0 where
  pub cells : IsTrue (is_cell_length row.cell)
  pub spacing : (group : Group) → occupancy_of row.spacing group ≤ 60

-- What a record spells.

both_made : {A B : Type 0} (a : Result A RefusalWord) (b : Result B RefusalWord) (p : A × B) → both a b ≡ Ok p → (a ≡ Ok p.0) × (b ≡ Ok p.1)
unfolding both
both_made {A} {B} (Ok a) (Ok b) p is = let same : (a, b) ≡ p = cc in (ap (λ (q : A × B). Ok q.0) same, ap (λ (q : A × B). Ok q.1) same)
both_made (Err word.Text) b p is = cc
both_made a (Err word.Text) p is = cc
both_made a b p is = cc

ranged : (bad inside : Bool) (m n : ℕ) (in_range : ℕ → Bool) → in_range m ≡ inside
    → (if bad then Err word.Text else if inside then Ok m else Err word.Range) ≡ Ok n → in_range n ≡ true
ranged true inside m n in_range is e = cc
ranged false true m n in_range is e = let same : m ≡ n = cc in subst (λ (k : ℕ). in_range k ≡ true) same is
ranged false false m n in_range is e = cc

number_made : (in_range : ℕ → Bool) (text : List ℕ) (n : ℕ) → number_field in_range text ≡ Ok n → in_range n ≡ true
unfolding number_field
number_made in_range text n e =
    ranged (not (from_to 1 4 (length text) && are_digits text)) (in_range (number_in text)) (number_in text) n in_range refl e

at_most : (n : ℕ) → from_to 0 5 n ≡ true → n ≤ 60
at_most n is = grind (arith, nat_tests)

choice : {X Y : Type 0} (P : Y → Type 0) (k : X → Result Y RefusalWord) (b : Bool) (r s : Result X RefusalWord)
    → IfOk (and_then r k) P → IfOk (and_then s k) P → IfOk (and_then (if b then r else s) k) P
choice P k true r s of_r of_s = of_r
choice P k false r s of_r of_s = of_s

then_then : {A X Y : Type 0} (P : Y → Type 0) (k : X → Result Y RefusalWord) (r : Result A RefusalWord) (g : A → Result X RefusalWord)
    → ((a : A) → IfOk (and_then (g a) k) P) → IfOk (and_then (and_then r g) k) P
then_then P k (Ok a) g each = each a
then_then P k (Err w) g each = tt

three_then : {A B C X Y : Type 0} (P : Y → Type 0) (k : X → Result Y RefusalWord) (f : A → B → C → X)
    (a : Result A RefusalWord) (b : Result B RefusalWord) (c : Result C RefusalWord)
    → ((x : A) (y : B) (z : C) → b ≡ Ok y → c ≡ Ok z → IfOk (k (f x y z)) P) → IfOk (and_then (of_three f a b c) k) P
unfolding of_three
three_then {A} {B} {C} P k f a b c each = by (both a (both b c)) refl
  where
    by : (r : Result (A × (B × C)) RefusalWord) → both a (both b c) ≡ r → IfOk (and_then (of_one (λ p. f p.0 p.1.0 p.1.1) r) k) P
    by (Ok p) is =
        let two = both_made a (both b c) p is in
        let rest = both_made b c p.1 two.1 in
        each p.0 p.1.0 p.1.1 rest.0 rest.1
    by (Err w) is = tt

-- What a record makes.

abbrev Keeps : Option AirportRows → Type 0
Keeps None = ⊤
Keeps (Some g) = All KeepsHours g.runways

new_row : (name : List ℕ) (cell cap : ℕ) → IsTrue (is_cell_length cell) → KeepsHours (record { name = name; cell = cell; cap = cap; spacing = no_spacing })
new_row name cell cap is = record { cells = is; spacing = none }
  where
    none : (group : Group) → occupancy_of no_spacing group ≤ 60
    none Light = omega arith
    none Medium = omega arith
    none Heavy = omega arith

occupied : (s : Spacing) (group other : Group) (minutes : ℕ) → minutes ≤ 60 → ((g : Group) → occupancy_of s g ≤ 60)
    → occupancy_of (with_occupancy s group minutes) other ≤ 60
occupied s Light Light minutes few before = few
occupied s Medium Medium minutes few before = few
occupied s Heavy Heavy minutes few before = few
occupied s Light Medium minutes few before = before Medium
occupied s Light Heavy minutes few before = before Heavy
occupied s Medium Light minutes few before = before Light
occupied s Medium Heavy minutes few before = before Heavy
occupied s Heavy Light minutes few before = before Light
occupied s Heavy Medium minutes few before = before Medium

row_spaced : (b : Bool) (group : Group) (minutes : ℕ) → minutes ≤ 60 → (row : RunwayRow) → KeepsHours row
    → KeepsHours (if b then record row { spacing = with_occupancy row.spacing group minutes } else row)
row_spaced true group minutes few row keeps = record { cells = keeps.cells; spacing = λ other. occupied row.spacing group other minutes few keeps.spacing }
row_spaced false group minutes few row keeps = keeps

unless : (b : Bool) (w : RefusalWord) (g : AirportRows) → All KeepsHours g.runways → IfOk (of_one Some (if b then Err w else Ok g)) Keeps
unless true w g keeps = tt
unless false w g keeps = keeps

unless_two : (b c : Bool) (v w : RefusalWord) (g : AirportRows) → All KeepsHours g.runways
    → IfOk (of_one Some (if b then Err v else if c then Err w else Ok g)) Keeps
unless_two true c v w g keeps = tt
unless_two false c v w g keeps = unless c w g keeps

none_kept : (fields : List (List ℕ)) → IfOk (and_then (airport_record_of fields) (with_record None)) Keeps
unfolding airport_record_of with_record
none_kept fields =
    choice Keeps (with_record None) (bytes_eq (field fields 0) (codes "DAY")) _ _
    (choice Keeps (with_record None) (length fields == 2) _ _ (then_then Keeps (with_record None) (refused_by_word (day_of (field fields 1))) _ (λ day. All-nil KeepsHours)) tt)
    (choice Keeps (with_record None) (bytes_eq (field fields 0) (codes "RUNWAY")) _ _
    (choice Keeps (with_record None) (length fields == 4) _ _ (three_then Keeps (with_record None) _ _ _ _ (λ x y z p q. tt)) tt)
    (choice Keeps (with_record None) (bytes_eq (field fields 0) (codes "TAXI")) _ _
    (choice Keeps (with_record None) (length fields == 4) _ _ (three_then Keeps (with_record None) _ _ _ _ (λ x y z p q. tt)) tt)
    (choice Keeps (with_record None) (bytes_eq (field fields 0) (codes "SPACE")) _ _
    (choice Keeps (with_record None) (length fields == 4) _ _ (three_then Keeps (with_record None) _ _ _ _ (λ x y z p q. tt)) tt)
    tt)))

runway_kept : (g : AirportRows) (r : List ℕ) (cell cap : ℕ) → All KeepsHours g.runways → IsTrue (is_cell_length cell)
    → IfOk (of_one Some (with_runway g r cell cap)) Keeps
runway_kept g r cell cap keeps is =
    unless_two (has_runway g r) (nat_le 8 (length g.runways)) word.Exists word.Full _
    (All-append KeepsHours g.runways _ keeps (All-cons KeepsHours _ [] (new_row r cell cap is) (All-nil KeepsHours)))

taxi_kept : (g : AirportRows) (place : Place) (r : List ℕ) (minutes : ℕ) → All KeepsHours g.runways → IfOk (of_one Some (with_taxi g place r minutes)) Keeps
taxi_kept g place r minutes keeps =
    unless_two (not (has_runway g r)) (is_one_stand_too_many (stands_in g.taxi) place) word.Unknown word.Full _ keeps

space_kept : (g : AirportRows) (r : List ℕ) (group : Group) (minutes : ℕ) → All KeepsHours g.runways → minutes ≤ 60
    → IfOk (of_one Some (with_space g r group minutes)) Keeps
space_kept g r group minutes keeps few =
    unless (not (has_runway g r)) word.Unknown _
    (All-map KeepsHours (spaced r group minutes) g.runways
    (All-weaker KeepsHours (λ row. KeepsHours (spaced r group minutes row)) (λ row k. row_spaced (same_name row.name r) group minutes few row k) g.runways keeps))

some_kept : (g : AirportRows) (fields : List (List ℕ)) → All KeepsHours g.runways → IfOk (and_then (airport_record_of fields) (with_record (Some g))) Keeps
unfolding airport_record_of with_record
some_kept g fields keeps =
    choice Keeps (with_record (Some g)) (bytes_eq (field fields 0) (codes "DAY")) _ _
    (choice Keeps (with_record (Some g)) (length fields == 2) _ _ (then_then Keeps (with_record (Some g)) (refused_by_word (day_of (field fields 1))) _ (λ day. tt)) tt)
    (choice Keeps (with_record (Some g)) (bytes_eq (field fields 0) (codes "RUNWAY")) _ _
    (choice Keeps (with_record (Some g)) (length fields == 4) _ _
    (three_then Keeps (with_record (Some g)) _ _ _ _ (λ r cell cap p q. runway_kept g r cell cap keeps (number_made is_cell_length (field fields 2) cell p))) tt)
    (choice Keeps (with_record (Some g)) (bytes_eq (field fields 0) (codes "TAXI")) _ _
    (choice Keeps (with_record (Some g)) (length fields == 4) _ _
    (three_then Keeps (with_record (Some g)) _ _ _ _ (λ place r minutes p q. taxi_kept g place r minutes keeps)) tt)
    (choice Keeps (with_record (Some g)) (bytes_eq (field fields 0) (codes "SPACE")) _ _
    (choice Keeps (with_record (Some g)) (length fields == 4) _ _
    (three_then Keeps (with_record (Some g)) _ _ _ _
    (λ r group minutes p q. space_kept g r group minutes keeps (at_most minutes (number_made (from_to 0 5) (field fields 3) minutes q)))) tt)
    tt)))

-- What a file says.

fields_kept : (s : Option AirportRows) (fields : List (List ℕ)) → Keeps s → IfOk (and_then (airport_record_of fields) (with_record s)) Keeps
fields_kept None fields keeps = none_kept fields
fields_kept (Some g) fields keeps = some_kept g fields keeps

records_kept : (s : Option AirportRows) (number : ℕ) (records : List (List (List ℕ))) → Keeps s
    → IfOk (after_records airport_record_of with_record s number records) Keeps
unfolding after_records
records_kept s number [] keeps = keeps
records_kept s number (fields ∷ later) keeps =
    by (λ next. records_kept next (number + 1) later) (and_then (airport_record_of fields) (with_record s)) (fields_kept s fields keeps)
  where
    by : ((next : Option AirportRows) → Keeps next → IfOk (after_records airport_record_of with_record next (number + 1) later) Keeps)
        → (r : Result (Option AirportRows) RefusalWord) → IfOk r Keeps
        → IfOk (and_then (result_map_both (λ next. next) (λ w. (number, w)) r) (λ next. after_records airport_record_of with_record next (number + 1) later)) Keeps
    by more (Ok next) kept = more next kept
    by more (Err w) kept = tt

begun : (r : Result (Option AirportRows) (ℕ × RefusalWord)) (fault : ℕ × RefusalWord) → IfOk r Keeps
    → IfOk (and_then r (λ rows. ok_or rows fault)) (λ g. All KeepsHours g.runways)
begun (Ok (Some g)) fault kept = kept
begun _ fault kept = tt

-- The airport that a file says keeps the hours.
pub keeps_hours : (text : List ℕ) (g : AirportRows) → airport_in text ≡ Ok g → All KeepsHours g.runways
unfolding airport_in
keeps_hours text g filed =
    let kept = begun (after_records airport_record_of with_record None 1 (records_of text)) (1, word.Order) (records_kept None 1 (records_of text) tt) in
    subst (λ (r : Result AirportRows (ℕ × RefusalWord)). IfOk r (λ g. All KeepsHours g.runways)) filed kept
