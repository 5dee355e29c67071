-- What the next day says of its clock, its tolerance, its runways and its taxi times.
use Rattle.std.proofs.Common.{Contains, ◌<◌, ltb-true, ltb-false, ◌≡◌, ℕ, ◌-◌, ◌+◌, ◌≤◌, Bool, true, false, List, Option, None, Some, refl, sym, ap, ◌∙◌, arith, le-leb}
use Rattle.std.proofs.lemmas.Bool.Decides.{nat_tests}
use Rattle.std.specs.Prelude.{nat_le, nat_lt, unwrap_or}
use Rattle.std.specs.Bool.{then_some}
use Rattle.std.specs.List.{filter_map, find}
use Rattle.cdm_flight.specs.Names.{same_name}
use Rattle.std.specs.Option.{option_and_then, option_map, option_or, option_map_or}
use Rattle.std.specs.FinMap as map
use Rattle.cdm_time.specs.Windows.{window_has, usual_tolerance}
use Rattle.cdm_time.specs.declared.tolerance.Tolerance.{Tolerance}
use Rattle.cdm_flight.specs.declared.place.Place.{Place}
use Rattle.cdm_flight.specs.declared.reach.Reach.TheVariants as reach
use Rattle.cdm_flight.specs.declared.update.Update.{Update}
use Rattle.cdm_flight.specs.declared.update.Update.TheVariants as update
use Rattle.cdm_flight.specs.Journal.{AirportRows, cap_given, cap_of, clock_given, closed_given, closed_of, last_value, taxi_given, taxi_of, tolerance_given, values_of}
use Rattle.cdm_flight.specs.Reach.{reach_of, same_reach, touching}
use Rattle.cdm_flight.proofs.Lists.{contains_all}
use Rattle.cdm_carry.specs.Carry.{carried, goes_on, moved}
use Rattle.cdm_change.specs.NextDay.{next_journal}
use Rattle.cdm_change.proofs.CarriedLemmas.{touching-carried}
use Rattle.cdm_change.proofs.LastLemmas.{last_kept, last_none, last_selected}

the_same : {X : Type 0} (o : Option X) → option_map (λ x. x) o ≡ o
the_same None = refl
the_same (Some x) = refl

-- The clock.

kept_minute : ℕ → Option ℕ
kept_minute m = then_some (nat_le 1440 m) (m - 1440)

none_and : {X Y : Type 0} (f : X → Option Y) (b : Bool) (x : X) → f x ≡ None → option_and_then f (then_some b x) ≡ None
none_and f true x e = e
none_and f false x e = refl

clock_carried : (a : List Update) (u : Update) → option_and_then clock_given (carried a u) ≡ option_and_then kept_minute (clock_given u)
unfolding kept_minute
clock_carried a (update.Clock m) = by (nat_le 1440 m)
  where
    by : (b : Bool) → option_and_then clock_given (then_some b (update.Clock (m - 1440))) ≡ then_some b (m - 1440)
    by true = refl
    by false = refl
clock_carried a u = none_and clock_given (goes_on a u) (moved u) refl

kept_later : (m : ℕ) → 1440 ≤ m → kept_minute m ≡ Some (m - 1440)
unfolding kept_minute
kept_later m h = ap (λ b. then_some b (m - 1440)) (le-leb 1440 m h)

clock_by : (o o' : Option ℕ) → ((y : ℕ) → option_and_then kept_minute o ≡ Some y → o' ≡ Some y) → 1440 ≤ unwrap_or o 0 → unwrap_or o' 0 ≡ unwrap_or o 0 - 1440
clock_by None o' kept late = absurd (omega (arith, late))
clock_by (Some c) o' kept late = ap (λ (o : Option ℕ). unwrap_or o 0) (kept (c - 1440) (kept_later c late))

-- No CLOCK is later than the last.
abbrev pub ClockRises : List Update → Type 0
ClockRises a = (m : ℕ) → Contains a (update.Clock m) → m ≤ (values_of a).clock

early_clock : (us : List Update) → ClockRises us → (values_of us).clock < 1440 → (u : Update) → Contains us u → option_and_then kept_minute (clock_given u) ≡ None
unfolding kept_minute
early_clock us rises early (update.Clock m) i =
    let before = rises m i in
    ap (λ b. then_some b (m - 1440)) (not_le m (omega (arith, before, early)))
  where
    not_le : (k : ℕ) → k < 1440 → nat_le 1440 k ≡ false
    not_le k h = grind (arith, nat_tests)
early_clock us rises early u i = refl

clock_next : (a us : List Update) → ClockRises us
    → unwrap_or (last_value clock_given (filter_map (carried a) (touching reach.Day us))) 0 ≡ unwrap_or (last_value clock_given (touching reach.Day us)) 0 - 1440
unfolding values_of
clock_next a us rises = by (nat_lt clock 1440) refl
  where
    day : List Update
    day = touching reach.Day us

    clock : ℕ
    clock = unwrap_or (last_value clock_given day) 0

    by : (b : Bool) → nat_lt clock 1440 ≡ b → unwrap_or (last_value clock_given (filter_map (carried a) day)) 0 ≡ clock - 1440
    by false e =
        clock_by (last_value clock_given day) (last_value clock_given (filter_map (carried a) day))
        (last_kept (carried a) clock_given clock_given kept_minute (clock_carried a) day) (ltb-false clock 1440 e)
    by true e =
        let early = ltb-true clock 1440 e in
        let none = last_none (carried a) clock_given clock_given day
        (λ u i. clock_carried a u ∙ early_clock us rises early u (contains_all (λ v. same_reach (reach_of v) reach.Day) us u i)) in
        let zero : 0 ≡ clock - 1440 = omega (arith, early) in
        ap (λ (o : Option ℕ). unwrap_or o 0) none ∙ zero

-- The clock of the next day, and its tolerance.
tolerance_carried : (a : List Update) (u : Update) → option_and_then tolerance_given (carried a u) ≡ option_map (λ t. t) (tolerance_given u)
tolerance_carried a (update.Tol t) = refl
tolerance_carried a u = none_and tolerance_given (goes_on a u) (moved u) refl

pub values_of-carried : (a us : List Update) → ClockRises us → values_of (filter_map (carried a) us) ≡ record (values_of us) { clock = (values_of us).clock - 1440 }
unfolding values_of
values_of-carried a us rises =
    let day : List Update = touching reach.Day us in
    let same = touching-carried a reach.Day us in
    let clock = ap (λ (vs : List Update). unwrap_or (last_value clock_given vs) 0) same ∙ clock_next a us rises in
    let tolerance = ap (λ (vs : List Update). unwrap_or (last_value tolerance_given vs) usual_tolerance) same
    ∙ ap (λ (o : Option Tolerance). unwrap_or o usual_tolerance)
    (last_selected (carried a) tolerance_given tolerance_given (λ t. t) (tolerance_carried a) day ∙ the_same (last_value tolerance_given day)) in
    λ i. record { clock = clock i; tolerance = tolerance i }

pub values_of-next : (a : List Update) → ClockRises a → values_of (next_journal a) ≡ record (values_of a) { clock = (values_of a).clock - 1440 }
values_of-next a rises = values_of-carried a a rises

-- Windows.

window_moved : (from to m : ℕ) → nat_lt 1440 to ≡ true → window_has (from - 1440) (to - 1440) m ≡ window_has from to (m + 1440)
window_moved from to m h = grind (arith, nat_tests)

window_past : (from to m : ℕ) → nat_lt 1440 to ≡ false → window_has from to (m + 1440) ≡ false
window_past from to m h = grind (arith, nat_tests)

-- A value that a window gives to a minute it gives to that minute of the next day, if it is carried.
in_window : {X : Type 0} (gives : Update → Option X) (v : Update) (x : X) (from to m : ℕ) → gives v ≡ then_some (window_has (from - 1440) (to - 1440) m) x
    → option_and_then gives (then_some (nat_lt 1440 to) v) ≡ option_map (λ y. y) (then_some (window_has from to (m + 1440)) x)
in_window {X} gives v x from to m e = by (nat_lt 1440 to) refl
  where
    by : (b : Bool) → nat_lt 1440 to ≡ b → option_and_then gives (then_some b v) ≡ option_map (λ y. y) (then_some (window_has from to (m + 1440)) x)
    by true h = e ∙ ap (λ (c : Bool). then_some c x) (window_moved from to m h) ∙ sym (the_same (then_some (window_has from to (m + 1440)) x))
    by false h = sym (ap (λ (c : Bool). option_map (λ (y : X). y) (then_some c x)) (window_past from to m h))

cap_carried : (a : List Update) (m : ℕ) (u : Update) → option_and_then (cap_given m) (carried a u) ≡ option_map (λ c. c) (cap_given (m + 1440) u)
cap_carried a m (update.Rate r from to cap) = in_window (cap_given m) (update.Rate r (from - 1440) (to - 1440) cap) cap from to m refl
cap_carried a m u = none_and (cap_given m) (goes_on a u) (moved u) refl

closed_carried : (a : List Update) (m : ℕ) (u : Update) → option_and_then (closed_given m) (carried a u) ≡ option_map (λ c. c) (closed_given (m + 1440) u)
closed_carried a m (update.Close r from to) = in_window (closed_given m) (update.Close r (from - 1440) (to - 1440)) true from to m refl
closed_carried a m (update.Reopen r from to) = in_window (closed_given m) (update.Reopen r (from - 1440) (to - 1440)) false from to m refl
closed_carried a m u = none_and (closed_given m) (goes_on a u) (moved u) refl

-- A minute of the next day has the capacity that it had.
pub cap_of-next : (g h : AirportRows) → h.runways ≡ g.runways → (a : List Update) (r : List ℕ) (m : ℕ) → cap_of h (next_journal a) r m ≡ cap_of g a r (m + 1440)
cap_of-next g h rows a r m =
    let own : List Update = touching (reach.Runway r) a in
    let last = ap (last_value (cap_given m)) (touching-carried a (reach.Runway r) a)
    ∙ last_selected (carried a) (cap_given (m + 1440)) (cap_given m) (λ c. c) (cap_carried a m) own
    ∙ the_same (last_value (cap_given (m + 1440)) own) in
    λ i. unwrap_or (last i) (option_map_or (λ row. row.cap) (find (λ row. same_name row.name r) (rows i)) 0)

-- It is closed where it was.
pub closed_of-next : (a : List Update) (r : List ℕ) (m : ℕ) → closed_of (next_journal a) r m ≡ closed_of a r (m + 1440)
closed_of-next a r m =
    let own : List Update = touching (reach.Runway r) a in
    ap (λ (us : List Update). unwrap_or (last_value (closed_given m) us) false) (touching-carried a (reach.Runway r) a)
    ∙ ap (λ (o : Option Bool). unwrap_or o false)
    (last_selected (carried a) (closed_given (m + 1440)) (closed_given m) (λ c. c) (closed_carried a m) own ∙ the_same (last_value (closed_given (m + 1440)) own))

-- Taxi times.

taxi_carried : (a : List Update) (place : Place) (u : Update) → option_and_then (taxi_given place) (carried a u) ≡ option_map (λ t. t) (taxi_given place u)
taxi_carried a place (update.Taxi p r minutes) = sym (the_same (taxi_given place (update.Taxi p r minutes)))
taxi_carried a place u = none_and (taxi_given place) (goes_on a u) (moved u) refl

-- What some updates of a day say of taxi times the carried ones of them say.
pub taxi_of-carried : (g h : AirportRows) → h.taxi ≡ g.taxi → (a us : List Update) (place : Place) (r : List ℕ)
    → taxi_of h (filter_map (carried a) us) place r ≡ taxi_of g us place r
taxi_of-carried g h rows a us place r =
    let own : List Update = touching (reach.Taxi r) us in
    let last = ap (last_value (taxi_given place)) (touching-carried a (reach.Taxi r) us)
    ∙ last_selected (carried a) (taxi_given place) (taxi_given place) (λ t. t) (taxi_carried a place) own
    ∙ the_same (last_value (taxi_given place) own) in
    λ i. option_or (last i) (map.get (rows i) (place, r))
