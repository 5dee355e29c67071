-- What could help a flight of a day.
use Rattle.std.specs.Prelude.{◌≡◌, ℕ, true, false, List, count_by, length, Option, None, IsSome}
use Rattle.std.specs.List.{AllZip, find}
use Rattle.std.specs.Option.{IsSomeAnd, option_map}
use Rattle.cdm_flight.specs.Names.{same_name}
use Rattle.cdm_flight.specs.Record.{is_planned}
use Rattle.cdm_flight.specs.declared.flight.Flight.{Flight}
use Rattle.cdm_flight.specs.declared.flight.Status.{Status}
use Rattle.cdm_flight.specs.declared.role.Role.{Role}
use Rattle.cdm_flight.specs.declared.update.Update.{Update}
use Rattle.cdm_sequence.specs.declared.plan.Plan.{Plan}
use Rattle.cdm_sequence.specs.declared.rule.Rule.{Rule}
use Rattle.cdm_report.specs.Counts.{counts_of}
use Rattle.cdm_plan.specs.Day.{DayRecord}
use Rattle.cdm_plan.specs.DayPlan.{IsDayPlan}
use Rattle.cdm_view.specs.Why.{AreWaits}
use Rattle.cdm_view.specs.declared.runs.Run.{Run}
use Rattle.cdm_options.specs.Effects.{IsEffect, minute_in}
use Rattle.cdm_options.specs.Helping.{IsRanking, all_helping, is_refused, told}
use Rattle.cdm_options.specs.Tried.{all_tried, tried_by}
use Rattle.cdm_options.specs.declared.effect.Effect.{Effect}
use Rattle.cdm_options.specs.declared.options.Options.{Options}
use Rattle.cdm_options.specs.declared.options.OptionsFault.{OptionsFault}
use Rattle.cdm_options.specs.declared.options.OptionsFault.TheVariants as fault

-- the records that are tried for a flight by the day's plan and what it waits for, of which a role may send these
abbrev pub tried_for : DayRecord → Plan → Flight → List Run → Option Role → List Update
tried_for d plan f runs role = tried_by role (all_tried d plan f runs)

-- the rule that blocks the flight of this name, if one does
abbrev pub rule_in : Plan → List ℕ → Option Rule
rule_in plan name = option_map (λ b. b.rule) (find (λ b. same_name b.name name) plan.blocked)

-- each of the records alone, what it would do, and those that help, the best first
pub record AreOptions (d : DayRecord) (f : Flight) (role : Option Role) (o : Options) : Type 0 where
  pub plan : Plan
  pub of_day : IsDayPlan d plan
  pub runs : List Run
  pub waits : AreWaits d plan f runs
  pub effects : List Effect
  pub of_each : AllZip (IsEffect d f.name) (tried_for d plan f runs role) effects
  pub flight : o.flight ≡ f
  pub clock : o.clock ≡ plan.clock
  pub rule : o.rule ≡ rule_in plan f.name
  pub before : o.before ≡ minute_in d plan f.name
  pub counts : o.counts ≡ counts_of plan
  pub ranking : IsRanking (told (all_helping (minute_in d plan f.name) (tried_for d plan f runs role) effects)) o.helping
  pub tried : o.tried ≡ length (tried_for d plan f runs role)
  pub refused : o.refused ≡ count_by is_refused effects

-- the flight is on its stand, and these are its options
pub record HasOptionsOf (d : DayRecord) (role : Option Role) (o : Options) (f : Flight) : Type 0 where
  pub planned : is_planned f.status ≡ true
  pub options : AreOptions d f role o

abbrev pub HasOptions : DayRecord → Option Flight → Option Role → Options → Type 0
HasOptions d known role o = IsSomeAnd known (HasOptionsOf d role o)

-- the flight isn't known, it isn't on its stand any more or is cancelled, or there was no memory
abbrev pub IsOptionsFault : Option Flight → List ℕ → OptionsFault → Type 0
IsOptionsFault known name (fault.NoFlight f) = (f ≡ name) × (known ≡ None)
IsOptionsFault known name (fault.NotPlanned f status) = (f ≡ name) × IsSomeAnd known (λ k. (status ≡ k.status) × (is_planned status ≡ false))
IsOptionsFault known name fault.Memory = IsSome known
