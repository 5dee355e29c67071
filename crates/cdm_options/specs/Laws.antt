-- What the records that are told are.
use Rattle.std.specs.Prelude.{◌≡◌, ℕ, true, All, List, Option, Some}
use Rattle.cdm_flight.specs.declared.flight.Flight.{Flight}
use Rattle.cdm_flight.specs.declared.role.Role.{Role}
use Rattle.cdm_plan.specs.Day.{DayRecord}
use Rattle.cdm_options.specs.Effects.{IsEffect}
use Rattle.cdm_options.specs.Helping.{is_sooner}
use Rattle.cdm_options.specs.Options.{AreOptions}
use Rattle.cdm_options.specs.declared.effect.Effect.TheVariants.{Planned}
use Rattle.cdm_options.specs.declared.helping.Helping.{Helping}
use Rattle.cdm_options.specs.declared.options.Options.{Options}

-- the record alone, as a scenario, gives the flight this take-off, which is sooner or its first, and the day these indicators
pub record IsWhatIf (d : DayRecord) (name : List ℕ) (before : Option ℕ) (h : Helping) : Type 0 where
  pub sooner : is_sooner before h.ttot ≡ true
  pub answer : IsEffect d name h.update (Planned (Some h.ttot) h.counts h.moved)

-- so does each that is told
abbrev pub AreWhatIfs : Type 0
AreWhatIfs = (d : DayRecord) (f : Flight) (role : Option Role) (o : Options) → AreOptions d f role o → All (IsWhatIf d f.name o.before) o.helping
