-- There is one answer of an aim.
use Rattle.cdm_sequence.proofs.Words.{common_steps, ◌≡◌, ℕ, ◌+◌, ◌<◌, ◌≤◌, Bool, true, false, List, Option, Some, None, subst, sym, ◌∙◌}
use Rattle.cdm_sequence.proofs.Words.{refl, arith, ap, rules, nat_tests, Key}
use Rattle.cdm_sequence.specs.{Aims.{TaxiTimes, ready_at, exot_to, is_candidate, IsAim}, declared.target.Target.Target}
use Rattle.cdm_sequence.specs.declared.aims.AimResult.{AimResult, TheVariants.{Ready, Early}}
use Rattle.cdm_sequence.specs.declared.rule.Rule.TheVariants.{Tobt, Runway, Exot, Horizon, Ctot}
use Rattle.std.{proofs.Common.{◌-◌, nat_le, nat_lt, max, min}, specs.Prelude.if◌then◌else◌, specs.declared.ops.Range.Range}
use Rattle.cdm_time.specs.{Windows.window_has, declared.tolerance.Tolerance.Tolerance}
use Rattle.cdm_flight.specs.declared.{values.DayValues.DayValues, flight.Flight.Flight}

-- Windows.

-- the first of the candidates, and the end of them
abbrev pub window_from : Tolerance → ℕ → Option ℕ → ℕ
window_from tolerance earliest None = earliest
window_from tolerance earliest (Some ctot) = max earliest (ctot - tolerance.before)

abbrev pub window_to : Tolerance → Option ℕ → ℕ
window_to tolerance None = 2880
window_to tolerance (Some ctot) = min 2880 (ctot + tolerance.after + 1)

abbrev pub window_of : Tolerance → ℕ → Option ℕ → Range ℕ
window_of tolerance earliest ctot = record { start = window_from tolerance earliest ctot; end = window_to tolerance ctot }

-- the window's minutes are the candidates
pub window_minutes : (tolerance : Tolerance) (earliest : ℕ) (ctot : Option ℕ) (m : ℕ)
    → window_has (window_from tolerance earliest ctot) (window_to tolerance ctot) m ≡ is_candidate tolerance earliest ctot m
window_minutes tolerance earliest ctot m = search rules

-- a minute lies in a window where it lies between its bounds
has : (w : Range ℕ) (m : ℕ) → w.start ≤ m → m < w.end → window_has w.start w.end m ≡ true
has w m from to = grind (arith, nat_tests)

had : (w : Range ℕ) (m : ℕ) → window_has w.start w.end m ≡ true → (w.start ≤ m) × (m < w.end)
had w m h = (grind (arith, nat_tests), grind (arith, nat_tests))

had_none : (w : Range ℕ) → window_has w.start w.end w.start ≡ false → nat_lt w.start w.end ≡ false
had_none w h = grind (arith, nat_tests)

-- windows with the same minutes are one
window_one : (v w : Range ℕ) → ((m : ℕ) → window_has v.start v.end m ≡ window_has w.start w.end m) → w.start < w.end → v ≡ w
window_one v w same some =
    let a = had v w.start (same w.start ∙ has w w.start (omega arith) some) in
    let b = had v (w.end - 1) (same (w.end - 1) ∙ has w (w.end - 1) (omega arith) (omega arith)) in
    let c = had w v.start (sym (same v.start) ∙ has v v.start (omega arith) (omega (arith, a.0, a.1))) in
    let d = had w (v.end - 1) (sym (same (v.end - 1)) ∙ has v (v.end - 1) (omega (arith, a.0, a.1)) (omega (arith, a.1))) in
    let from : v.start ≡ w.start = omega (arith, a.0, c.0) in
    let to : v.end ≡ w.end = omega (arith, a.1, b.1, d.1, some) in
    λ i. record { start = from i; end = to i }

reached : (tolerance : Tolerance) (earliest : ℕ) (ctot : Option ℕ) → window_from tolerance earliest ctot < window_to tolerance ctot
    → (nat_le 2880 earliest ≡ false) × (nat_lt (window_from tolerance earliest ctot) (window_to tolerance ctot) ≡ true)
reached tolerance earliest ctot h = search rules

-- The answer, step by step.

abbrev target_of : Flight → DayValues → ℕ → List ℕ → ℕ → Target
target_of f values tobt runway exot = record {
  key = record { priority = f.priority; tobt = tobt; name = f.name };
  runway = runway;
  ctot = f.ctot;
  group = f.group;
  exot = exot;
  ready = ready_at f tobt values;
  window = window_of values.tolerance (ready_at f tobt values + exot) f.ctot;
}

-- the flight has a candidate from the earliest minute on
abbrev has_some : Flight → DayValues → ℕ → Bool
has_some f values earliest = nat_lt (window_from values.tolerance earliest f.ctot) (window_to values.tolerance f.ctot)

-- the target, unless no minute is in reach, or none of those is a candidate
abbrev if_possible : Bool → Bool → Target → AimResult
if_possible out some t = if out then Early Horizon else if some then Ready t else Early Ctot

abbrev pub aim_with_exot : Flight → DayValues → ℕ → List ℕ → Option ℕ → AimResult
aim_with_exot f values tobt runway None = Early Exot
aim_with_exot f values tobt runway (Some exot) =
    if_possible (nat_le 2880 (ready_at f tobt values + exot)) (has_some f values (ready_at f tobt values + exot)) (target_of f values tobt runway exot)

abbrev pub aim_with : Flight → TaxiTimes → DayValues → Option ℕ → Option (List ℕ) → AimResult
aim_with f times values None runway = Early Tobt
aim_with f times values (Some tobt) None = Early Runway
aim_with f times values (Some tobt) (Some runway) = aim_with_exot f values tobt runway (exot_to times f runway)

unfoldable pub aim_of : Flight → TaxiTimes → DayValues → AimResult
aim_of f times values = aim_with f times values f.tobt f.runway

module _ (f : Flight) (times : TaxiTimes) (values : DayValues) where
  -- the flight with this TOBT and this runway
  abbrev flight_with : Option ℕ → Option (List ℕ) → Flight
  flight_with tobt runway = record f { tobt = tobt; runway = runway }

  -- the answer is right
  means : (o : Option ℕ) (r : Option (List ℕ)) → IsAim (flight_with o r) times values (aim_with f times values o r)
  means o r = grind (arith, common_steps)

  -- and it is the only one
  only : (o : Option ℕ) (r : Option (List ℕ)) (a : AimResult) → IsAim (flight_with o r) times values a → aim_with f times values o r ≡ a
  only None r (Early Tobt) e = refl
  only None r (Early Runway) e = cc
  only None r (Early Exot) e = cc
  only None r (Ready t) e = cc
  only None r _ e = absurd e
  only (Some tobt) None (Early Runway) e = refl
  only (Some tobt) None (Early Tobt) e = cc
  only (Some tobt) None (Early Exot) e = cc
  only (Some tobt) None (Ready t) e = cc
  only (Some tobt) None _ e = absurd e
  only (Some tobt) (Some runway) a e = by (exot_to times f runway) refl a e where
    by : (x : Option ℕ) → exot_to times f runway ≡ x → (a : AimResult) → IsAim (flight_with (Some tobt) (Some runway)) times values a
        → aim_with_exot f values tobt runway x ≡ a
    by x h (Early Tobt) e = cc
    by x h (Early Runway) e = cc
    by x h (Early Exot) e =
        let same : runway ≡ e.1.0 = cc in
        ap (aim_with_exot f values tobt runway) (sym h ∙ ap (exot_to times f) same ∙ e.1.2)
    by None h (Early Horizon) e = absurd (rw h at e)
    by (Some exot) h (Early Horizon) e =
        let far : 2880 ≤ ready_at f tobt values + exot = rw h at e in
        let t = target_of f values tobt runway exot in
        let out : nat_le 2880 (ready_at f tobt values + exot) ≡ true = grind (arith, nat_tests) in
        ap (λ b. if_possible b (nat_lt t.window.start t.window.end) t) out
    by None h (Early Ctot) e = absurd (rw h at e)
    by (Some exot) h (Early Ctot) e =
        let earliest = ready_at f tobt values + exot in
        let held : (earliest < 2880) × ((k : ℕ) → is_candidate values.tolerance earliest f.ctot k ≡ false) = rw h at e in
        let t = target_of f values tobt runway exot in
        let near = held.0 in
        let out : nat_le 2880 earliest ≡ false = grind (arith, nat_tests) in
        let none = had_none t.window (window_minutes values.tolerance earliest f.ctot t.window.start ∙ held.1 t.window.start) in
        λ i. if_possible (out i) (none i) t
    by x h (Ready t) e =
        let own : Key = record { priority = f.priority; tobt = tobt; name = f.name } in
        let key : own ≡ t.key = cc in
        let runway_is : runway ≡ t.runway = cc in
        let ready : ready_at f tobt values ≡ t.ready = ap (λ (k : Key). ready_at f k.tobt values) key ∙ sym e.ready in
        let found = target_of f values tobt runway t.exot in
        let earliest = ready_at f tobt values + t.exot in
        let window : found.window ≡ t.window = window_one found.window t.window (λ m. window_minutes values.tolerance earliest f.ctot m
        ∙ ((λ i. is_candidate values.tolerance (ready i + t.exot) (sym e.ctot i) m) ∙ sym (e.minutes m))) e.some_minute in
        let possible = reached values.tolerance earliest f.ctot (subst (λ (w : Range ℕ). w.start < w.end) (sym window) e.some_minute) in
        let target : found ≡ t = λ i. record { key = key i; runway = runway_is i; ctot = sym e.ctot i; group = sym e.group i; exot = t.exot; ready = ready i; window = window i } in
        ap (aim_with_exot f values tobt runway) (sym h ∙ ap (exot_to times f) runway_is ∙ e.exot) ∙ (λ i. if_possible (possible.0 i) (possible.1 i) found)
        ∙ ap Ready target
    by x h _ e = absurd e

pub aim_means : (f : Flight) (times : TaxiTimes) (values : DayValues) → IsAim f times values (aim_of f times values)
unfolding aim_of
aim_means f times values = means f times values f.tobt f.runway

pub aim_is : (f : Flight) (times : TaxiTimes) (values : DayValues) (a : AimResult) → IsAim f times values a → aim_of f times values ≡ a
unfolding aim_of
aim_is f times values = only f times values f.tobt f.runway

-- so there is one
pub aim_one : (f : Flight) (times : TaxiTimes) (values : DayValues) (a b : AimResult) → IsAim f times values a → IsAim f times values b → a ≡ b
aim_one f times values a b x y = sym (aim_is f times values a x) ∙ aim_is f times values b y

pub aim_some : (f : Flight) (times : TaxiTimes) (values : DayValues) → (a : AimResult) × IsAim f times values a
aim_some f times values = (aim_of f times values, aim_means f times values)
