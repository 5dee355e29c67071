-- Whether a planned flight can be sequenced, and when it may take off.
use Rattle.std.specs.Prelude.{◌≡◌, ℕ, ◌+◌, ◌<◌, ◌≤◌, max, Bool, true, false, ◌&&◌, nat_le, nat_lt, List, Option, Some, None, IsSome}
use Rattle.std.specs.Option.{IsSomeAnd, option_and_then, option_map_or}
use Rattle.cdm_time.specs.Windows.{is_in_tolerance, window_has}
use Rattle.cdm_time.specs.declared.tolerance.Tolerance.{Tolerance}
use Rattle.cdm_flight.specs.declared.place.Place.{Place}
use Rattle.cdm_flight.specs.declared.values.DayValues.{DayValues}
use Rattle.cdm_flight.specs.Record.{key_of}
use Rattle.cdm_flight.specs.declared.flight.Flight.{Flight}
use Rattle.cdm_flight.specs.Taxi.{stand_minutes, taxi_out}
use Rattle.cdm_sequence.specs.declared.target.Target.{Target}
use Rattle.cdm_sequence.specs.declared.aims.AimResult.{AimResult}
use Rattle.cdm_sequence.specs.declared.aims.AimResult.TheVariants.{Ready, Early}
use Rattle.cdm_sequence.specs.declared.rule.Rule.TheVariants.{Tobt, Runway, Exot, Horizon, Ctot}

-- the taxi times from each place to each runway
abbrev pub TaxiTimes : Type 0
TaxiTimes = Place → List ℕ → Option ℕ

-- when the flight can leave its stand: after its TOBT and de-icing there, and not before now
abbrev pub ready_at : Flight → ℕ → DayValues → ℕ
ready_at f tobt values = max (tobt + stand_minutes f.ice) values.clock

-- the taxi-out time of the flight to a runway
abbrev pub exot_to : TaxiTimes → Flight → List ℕ → Option ℕ
exot_to times f runway = taxi_out (λ place. times place runway) f.stand f.ice

-- and to the runway that the flight has
abbrev pub own_exot : TaxiTimes → Flight → Option ℕ
own_exot times f = option_and_then (exot_to times f) f.runway

-- a minute of the horizon from the earliest on, within the tolerance of the CTOT, if there is one
abbrev pub is_candidate : Tolerance → ℕ → Option ℕ → ℕ → Bool
is_candidate tolerance earliest ctot m = nat_le earliest m && nat_lt m 2880 && option_map_or (λ c. is_in_tolerance tolerance c m) ctot true

-- the target is that of the flight, and the minutes of its window are the candidates
pub record IsTarget (f : Flight) (times : TaxiTimes) (values : DayValues) (t : Target) : Type 0 where
  pub key : key_of f ≡ Some t.key
  pub runway : f.runway ≡ Some t.runway
  pub ctot : t.ctot ≡ f.ctot
  pub group : t.group ≡ f.group
  pub exot : exot_to times f t.runway ≡ Some t.exot
  pub ready : t.ready ≡ ready_at f t.key.tobt values
  pub some_minute : t.window.start < t.window.end
  pub minutes : (m : ℕ) → window_has t.window.start t.window.end m ≡ is_candidate values.tolerance (t.ready + t.exot) t.ctot m

-- the flight has a TOBT, a runway and a taxi-out time, and P holds of the minute from which on it could take
-- off by them
abbrev pub ReachesAt : Flight → TaxiTimes → DayValues → (ℕ → Type 0) → Type 0
ReachesAt f times values P =
    IsSomeAnd f.tobt (λ tobt. IsSomeAnd f.runway (λ runway. IsSomeAnd (exot_to times f runway) (λ exot. P (ready_at f tobt values + exot))))

-- what a planned flight could have: its target, or the first rule that leaves it none: it has no TOBT,
-- no runway or no taxi-out time, or no minute of the horizon is in reach, or none of those keeps its CTOT
abbrev pub IsAim : Flight → TaxiTimes → DayValues → AimResult → Type 0
IsAim f times values (Ready t) = IsTarget f times values t
IsAim f times values (Early Tobt) = f.tobt ≡ None
IsAim f times values (Early Runway) = IsSome f.tobt × (f.runway ≡ None)
IsAim f times values (Early Exot) = IsSome f.tobt × ((runway : List ℕ) × (f.runway ≡ Some runway) × (exot_to times f runway ≡ None))
IsAim f times values (Early Horizon) = ReachesAt f times values (λ m. 2880 ≤ m)
IsAim f times values (Early Ctot) = ReachesAt f times values (λ m. (m < 2880) × ((k : ℕ) → is_candidate values.tolerance m f.ctot k ≡ false))
IsAim f times values (Early rule) = ⊥
