-- What is kept of a flight that stays.
use Rattle.std.specs.Prelude.{◌≡◌, ℕ, ◌-◌, true, List, map}
use Rattle.std.specs.Option.{option_map}
use Rattle.cdm_flight.specs.declared.role.Role.{Role}
use Rattle.cdm_flight.specs.declared.update.Update.{Update}
use Rattle.cdm_flight.specs.Journal.{aobt_given, atot_given, ctot_given, group_given, ice_given, last_value, of_flight, priority_given, runway_given, stand_given, tobt_given}
use Rattle.cdm_carry.specs.Carry.{carried_all, stays}

-- the updates of a flight among records, in their order
abbrev pub own : List (Role × Update) → List ℕ → List Update
own records f = of_flight f (map (λ p. p.1) records)

-- a minute of the next day, or its first minute
abbrev pub next_minute : ℕ → ℕ
next_minute m = m - 1440

-- one list of updates says of a flight what the other says, with its minutes as the next day has them
pub record SaysTheSame (before after : List Update) : Type 0 where
  pub priority : last_value priority_given after ≡ last_value priority_given before
  pub stand : last_value stand_given after ≡ last_value stand_given before
  pub runway : last_value runway_given after ≡ last_value runway_given before
  pub ice : last_value ice_given after ≡ last_value ice_given before
  pub group : last_value group_given after ≡ last_value group_given before
  pub tobt : last_value tobt_given after ≡ option_map next_minute (last_value tobt_given before)
  pub ctot : last_value ctot_given after ≡ option_map (option_map next_minute) (last_value ctot_given before)
  pub aobt : last_value aobt_given after ≡ option_map next_minute (last_value aobt_given before)
  pub atot : last_value atot_given after ≡ option_map next_minute (last_value atot_given before)

-- of each flight that stays the carried records say what all records say
abbrev pub StaysTheSame : Type 0
StaysTheSame = (a : List Update) (records : List (Role × Update)) (f : List ℕ) → stays a f ≡ true → SaysTheSame (own records f) (own (carried_all a records) f)
