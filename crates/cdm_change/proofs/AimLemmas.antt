-- What a planned flight could have in the next day.
use Rattle.std.proofs.Common.{◌≡◌, ℕ, ◌+◌, ◌-◌, ◌<◌, ◌≤◌, max, Bool, true, false, List, Option, None, Some, IfSome, refl, sym, ap, ◌∙◌, subst, arith, ltb-true, ltb-false}
use Rattle.std.proofs.lemmas.Bool.{false≢true}
use Rattle.std.proofs.lemmas.Bool.Decides.{nat_tests}
use Rattle.std.specs.Prelude.{nat_lt}
use Rattle.std.specs.Option.{IsSomeAnd, option_map}
use Rattle.cdm_sequence.proofs.AimLemmas.{aim_means, aim_of}
use Rattle.cdm_time.specs.Windows.{window_has}
use Rattle.cdm_time.specs.declared.tolerance.Tolerance.{Tolerance}
use Rattle.cdm_flight.specs.declared.flight.Flight.{Flight}
use Rattle.cdm_flight.specs.declared.key.Key.{Key}
use Rattle.cdm_flight.specs.declared.values.DayValues.{DayValues}
use Rattle.cdm_flight.specs.Taxi.{stand_minutes}
use Rattle.cdm_sequence.specs.Aims.{IsAim, IsTarget, ReachesAt, TaxiTimes, exot_to, is_candidate, ready_at}
use Rattle.cdm_sequence.specs.declared.target.Target.{Target}
use Rattle.cdm_sequence.specs.declared.aims.AimResult.{AimResult}
use Rattle.cdm_sequence.specs.declared.aims.AimResult.TheVariants.{Ready, Early}
use Rattle.cdm_sequence.specs.declared.rule.Rule.TheVariants.{Tobt, Runway, Exot, Horizon, Ctot}
use Rattle.cdm_carry.specs.Laws.{next_minute}
use Rattle.cdm_change.specs.NextDay.{next_flight}

-- Minutes.

max_later : (t s c : ℕ) → max (t + 1440 + s) c ≡ max (t + s) (c - 1440) + 1440
max_later t s c = grind (arith, nat_tests)

-- One target is the other's in the next day.
pub record IsNextTarget (before after : Target) : Type 0 where
  pub name : after.key.name ≡ before.key.name
  pub priority : after.key.priority ≡ before.key.priority
  pub tobt : before.key.tobt ≡ after.key.tobt + 1440
  pub runway : after.runway ≡ before.runway
  pub ctot : after.ctot ≡ option_map next_minute before.ctot
  pub group : after.group ≡ before.group
  pub exot : after.exot ≡ before.exot
  pub ready : before.ready ≡ after.ready + 1440
  -- its window has the same minutes of the next day, up to where the horizon ended
  pub minutes : (m : ℕ) → m < 1440 → window_has after.window.start after.window.end m ≡ window_has before.window.start before.window.end (m + 1440)
  -- from now on
  pub later : (m : ℕ) → window_has before.window.start before.window.end m ≡ true → (before.ready ≤ m) × (m < 2880)

-- What a flight could have in the next day by what it could have before: its target there, or no minute up to where the
-- horizon ended.
abbrev pub FitsNext : AimResult → AimResult → Type 0
FitsNext (Ready t) (Ready u) = IsNextTarget t u
FitsNext (Ready t) (Early rule) = ⊥
FitsNext (Early rule) (Ready u) = 1440 ≤ u.window.start
FitsNext (Early rule) (Early other) = Unit {0}

-- a minute of a day is a candidate where it was
candidate_by : (tolerance : Tolerance) (e e' m : ℕ) (ctot : Option ℕ) → e ≡ e' + 1440 → m < 1440 → IfSome ctot (λ c. 1440 ≤ c)
    → is_candidate tolerance e' (option_map next_minute ctot) m ≡ is_candidate tolerance e ctot (m + 1440)
candidate_by tolerance e e' m None same early late = grind (arith, nat_tests)
candidate_by tolerance e e' m (Some c) same early late = grind (arith, nat_tests)

candidate_after : (tolerance : Tolerance) (e m : ℕ) (ctot : Option ℕ) → is_candidate tolerance e ctot m ≡ true → (e ≤ m) × (m < 2880)
candidate_after tolerance e m None h = (grind (arith, nat_tests), grind (arith, nat_tests))
candidate_after tolerance e m (Some c) h = (grind (arith, nat_tests), grind (arith, nat_tests))

pub key_parts : (priority : ℕ) (name : List ℕ) (o : Option ℕ) (k : Key) → option_map (λ tobt. record { priority = priority; tobt = tobt; name = name }) o ≡ Some k
    → (o ≡ Some k.tobt) × (k.priority ≡ priority) × (k.name ≡ name)
key_parts priority name None k e = cc e
key_parts priority name (Some tobt) k e =
    let own : Key = record { priority = priority; tobt = tobt; name = name } in
    let same : own ≡ k = cc e in
    (ap (λ (x : Key). Some x.tobt) same, sym (ap (λ (x : Key). x.priority) same), sym (ap (λ (x : Key). x.name) same))

some_and : {X : Type 0} (o : Option X) (P : X → Type 0) → IsSomeAnd o P → (x : X) × (o ≡ Some x) × P x
some_and None P h = absurd h
some_and (Some x) P h = (x, refl, h)

-- a window with a minute has its first one
first_minute : (start end : ℕ) → start < end → window_has start end start ≡ true
first_minute start end h = grind (arith, nat_tests)

-- A planned flight whose times lie in the next day.
module _ (f : Flight) (times : TaxiTimes) (values : DayValues) (tobt : IfSome f.tobt (λ m. 1440 ≤ m))
    (ctot : IfSome f.ctot (λ m. 1440 ≤ m)) where
  abbrev next_values : DayValues
  next_values = record values { clock = values.clock - 1440 }

  moved_tobt : (m : ℕ) (n : ℕ) → f.tobt ≡ Some m → option_map next_minute f.tobt ≡ Some n → m ≡ n + 1440
  moved_tobt m n e h =
      let late : 1440 ≤ m = subst (λ (o : Option ℕ). IfSome o (λ k. 1440 ≤ k)) e tobt in
      let same : Some (next_minute m) ≡ Some n = ap (option_map next_minute) (sym e) ∙ h in
      let is : m - 1440 ≡ n = cc same in
      omega (arith, late, is)

  targets_fit : (t u : Target) → IsTarget f times values t → IsTarget (next_flight f) times next_values u → IsNextTarget t u
  targets_fit t u x y =
      let key = key_parts f.priority f.name f.tobt t.key x.key in
      let next = key_parts f.priority f.name (option_map next_minute f.tobt) u.key y.key in
      let tobt_is : t.key.tobt ≡ u.key.tobt + 1440 = moved_tobt t.key.tobt u.key.tobt key.0 next.0 in
      let runway_is : u.runway ≡ t.runway = let same : Some u.runway ≡ Some t.runway = sym y.runway ∙ x.runway in cc same in
      let exot_is : u.exot ≡ t.exot = let same : Some u.exot ≡ Some t.exot = sym y.exot ∙ ap (exot_to times f) runway_is ∙ x.exot in cc same in
      let ready_is : t.ready ≡ u.ready + 1440 =
      x.ready ∙ ap (λ (n : ℕ). ready_at f n values) tobt_is ∙ max_later u.key.tobt (stand_minutes f.ice) values.clock ∙ ap (λ (n : ℕ). n + 1440) (sym y.ready) in
      let ctot_is : u.ctot ≡ option_map next_minute t.ctot = y.ctot ∙ ap (option_map next_minute) (sym x.ctot) in
      let late_ctot : IfSome t.ctot (λ c. 1440 ≤ c) = subst (λ (o : Option ℕ). IfSome o (λ c. 1440 ≤ c)) (sym x.ctot) ctot in
      let earliest : t.ready + t.exot ≡ u.ready + u.exot + 1440 = omega (arith, ready_is, exot_is) in
      record {
        name = next.2 ∙ sym key.2;
        priority = next.1 ∙ sym key.1;
        tobt = tobt_is;
        runway = runway_is;
        ctot = ctot_is;
        group = y.group ∙ sym x.group;
        exot = exot_is;
        ready = ready_is;
        minutes = λ m early.
            y.minutes m ∙ ap (λ (o : Option ℕ). is_candidate values.tolerance (u.ready + u.exot) o m) ctot_is
            ∙ candidate_by values.tolerance (t.ready + t.exot) (u.ready + u.exot) m t.ctot earliest early late_ctot
            ∙ sym (x.minutes (m + 1440));
        later = λ m h. let held = candidate_after values.tolerance (t.ready + t.exot) m t.ctot (sym (x.minutes m) ∙ h) in (omega (arith, held.0), held.1);
      }

  -- What holds of the minute from which on it could take off, by what it could have in the next day.
  reached_next : (P : ℕ → Type 0) → ReachesAt f times values P → (u : Target) → IsTarget (next_flight f) times next_values u → P (u.ready + u.exot + 1440)
  reached_next P x u y =
      let at_tobt = some_and f.tobt _ x in
      let at_runway = some_and f.runway _ at_tobt.2 in
      let at_exot = some_and (exot_to times f at_runway.0) _ at_runway.2 in
      let next = key_parts f.priority f.name (option_map next_minute f.tobt) u.key y.key in
      let tobt_is : at_tobt.0 ≡ u.key.tobt + 1440 = moved_tobt at_tobt.0 u.key.tobt at_tobt.1 next.0 in
      let runway_is : at_runway.0 ≡ u.runway = let same : Some at_runway.0 ≡ Some u.runway = sym at_runway.1 ∙ y.runway in cc same in
      let exot_is : at_exot.0 ≡ u.exot = let same : Some at_exot.0 ≡ Some u.exot = sym at_exot.1 ∙ ap (exot_to times f) runway_is ∙ y.exot in cc same in
      let ready_is : ready_at f at_tobt.0 values ≡ u.ready + 1440 =
      ap (λ (n : ℕ). ready_at f n values) tobt_is ∙ max_later u.key.tobt (stand_minutes f.ice) values.clock ∙ ap (λ (n : ℕ). n + 1440) (sym y.ready) in
      let minute : ready_at f at_tobt.0 values + at_exot.0 ≡ u.ready + u.exot + 1440 = omega (arith, ready_is, exot_is) in
      subst P minute at_exot.2

  -- And the other way round.
  reached_before : (P : ℕ → Type 0) → ReachesAt (next_flight f) times next_values P → (t : Target) → IsTarget f times values t
      → (m : ℕ) × P m × (m + 1440 ≡ t.ready + t.exot)
  reached_before P y t x =
      let at_tobt = some_and (option_map next_minute f.tobt) _ y in
      let at_runway = some_and f.runway _ at_tobt.2 in
      let at_exot = some_and (exot_to times f at_runway.0) _ at_runway.2 in
      let key = key_parts f.priority f.name f.tobt t.key x.key in
      let tobt_is : t.key.tobt ≡ at_tobt.0 + 1440 = moved_tobt t.key.tobt at_tobt.0 key.0 at_tobt.1 in
      let runway_is : at_runway.0 ≡ t.runway = let same : Some at_runway.0 ≡ Some t.runway = sym at_runway.1 ∙ x.runway in cc same in
      let exot_is : at_exot.0 ≡ t.exot = let same : Some at_exot.0 ≡ Some t.exot = sym at_exot.1 ∙ ap (exot_to times f) runway_is ∙ x.exot in cc same in
      let ready_is : t.ready ≡ ready_at (next_flight f) at_tobt.0 next_values + 1440 =
      x.ready ∙ ap (λ (n : ℕ). ready_at f n values) tobt_is ∙ max_later at_tobt.0 (stand_minutes f.ice) values.clock in
      (ready_at (next_flight f) at_tobt.0 next_values + at_exot.0, at_exot.2, omega (arith, ready_is, exot_is))

  -- the first minute of a window is a candidate
  first_is : (t : Target) → IsTarget f times values t → is_candidate values.tolerance (t.ready + t.exot) t.ctot t.window.start ≡ true
  first_is t x = sym (x.minutes t.window.start) ∙ first_minute t.window.start t.window.end x.some_minute

  next_first_is : (u : Target) → IsTarget (next_flight f) times next_values u → is_candidate values.tolerance (u.ready + u.exot) u.ctot u.window.start ≡ true
  next_first_is u y = sym (y.minutes u.window.start) ∙ first_minute u.window.start u.window.end y.some_minute

  none_before : (u : Target) → IsTarget (next_flight f) times next_values u
      → ((k : ℕ) → is_candidate values.tolerance (u.ready + u.exot + 1440) f.ctot k ≡ false) → (b : Bool) → nat_lt u.window.start 1440 ≡ b → 1440 ≤ u.window.start
  none_before u y none true e =
      let early : u.window.start < 1440 = omega (arith, ltb-true u.window.start 1440 e) in
      let was = candidate_by values.tolerance (u.ready + u.exot + 1440) (u.ready + u.exot) u.window.start f.ctot refl early ctot in
      let now : is_candidate values.tolerance (u.ready + u.exot) (option_map next_minute f.ctot) u.window.start ≡ true =
      ap (λ (o : Option ℕ). is_candidate values.tolerance (u.ready + u.exot) o u.window.start) (sym y.ctot) ∙ next_first_is u y in
      absurd (false≢true (sym (none (u.window.start + 1440)) ∙ sym was ∙ now))
  none_before u y none false e = ltb-false u.window.start 1440 e

  none_after : (t : Target) (m : ℕ) → IsTarget f times values t → m + 1440 ≡ t.ready + t.exot → ((k : ℕ) → is_candidate values.tolerance m (option_map next_minute f.ctot) k ≡ false) → ⊥
  none_after t m x same none =
      let first = first_is t x in
      let held = candidate_after values.tolerance (t.ready + t.exot) t.window.start t.ctot first in
      let k = t.window.start - 1440 in
      let at : k + 1440 ≡ t.window.start = omega (arith, held.0, same) in
      let was = candidate_by values.tolerance (t.ready + t.exot) m k f.ctot (sym same) (omega (arith, held.1, at)) ctot in
      let now : is_candidate values.tolerance (t.ready + t.exot) f.ctot (k + 1440) ≡ true =
      (λ i. is_candidate values.tolerance (t.ready + t.exot) (sym x.ctot i) (at i)) ∙ first in
      false≢true (sym (none k) ∙ was ∙ now)

  fit : (a b : AimResult) → IsAim f times values a → IsAim (next_flight f) times next_values b → FitsNext a b
  fit (Ready t) (Ready u) x y = targets_fit t u x y
  fit (Ready t) (Early Tobt) x y =
      let key = key_parts f.priority f.name f.tobt t.key x.key in
      let no : Some (next_minute t.key.tobt) ≡ None = ap (option_map next_minute) (sym key.0) ∙ y in
      cc no
  fit (Ready t) (Early Runway) x y = let no : Some t.runway ≡ None = sym x.runway ∙ y.1 in cc no
  fit (Ready t) (Early Exot) x y =
      let same : Some y.1.0 ≡ Some t.runway = sym y.1.1 ∙ x.runway in
      let runway_is : y.1.0 ≡ t.runway = cc same in
      let no : Some t.exot ≡ None = sym x.exot ∙ ap (exot_to times f) (sym runway_is) ∙ y.1.2 in
      cc no
  fit (Ready t) (Early Horizon) x y =
      let at = reached_before (λ m. 2880 ≤ m) y t x in
      let held = candidate_after values.tolerance (t.ready + t.exot) t.window.start t.ctot (first_is t x) in
      absurd (omega (arith, at.1, at.2, held.0, held.1))
  fit (Ready t) (Early Ctot) x y =
      let at = reached_before (λ m. (m < 2880) × ((k : ℕ) → is_candidate values.tolerance m (option_map next_minute f.ctot) k ≡ false)) y t x in
      absurd (none_after t at.0 x at.2 at.1.1)
  fit (Ready t) (Early _) x y = absurd y
  fit (Early Tobt) (Ready u) x y =
      let next = key_parts f.priority f.name (option_map next_minute f.tobt) u.key y.key in
      let no : None ≡ Some u.key.tobt = ap (option_map next_minute) (sym x) ∙ next.0 in
      cc no
  fit (Early Runway) (Ready u) x y = let no : Some u.runway ≡ None = sym y.runway ∙ x.1 in cc no
  fit (Early Exot) (Ready u) x y =
      let same : Some x.1.0 ≡ Some u.runway = sym x.1.1 ∙ y.runway in
      let runway_is : x.1.0 ≡ u.runway = cc same in
      let no : Some u.exot ≡ None = sym y.exot ∙ ap (exot_to times f) (sym runway_is) ∙ x.1.2 in
      cc no
  fit (Early Horizon) (Ready u) x y =
      let far = reached_next (λ m. 2880 ≤ m) x u y in
      let held = candidate_after values.tolerance (u.ready + u.exot) u.window.start u.ctot (next_first_is u y) in
      omega (arith, far, held.0)
  fit (Early Ctot) (Ready u) x y =
      let near = reached_next (λ m. (m < 2880) × ((k : ℕ) → is_candidate values.tolerance m f.ctot k ≡ false)) x u y in
      none_before u y near.1 (nat_lt u.window.start 1440) refl
  fit (Early _) (Ready u) x y = absurd x
  fit (Early rule) (Early other) x y = tt

  pub aims_fit : FitsNext (aim_of f times values) (aim_of (next_flight f) times next_values)
  aims_fit = fit (aim_of f times values) (aim_of (next_flight f) times next_values) (aim_means f times values) (aim_means (next_flight f) times next_values)
