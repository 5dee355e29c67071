-- How a flight leaves its stand.
use Rattle.std.specs.Prelude.{◌≡◌, ℕ, false, nat_lt, List, None}
use Rattle.std.specs.List.{list_any}
use Rattle.std.specs.Option.{option_map_or}
use Rattle.cdm_flight.specs.declared.update.Update.{Update}
use Rattle.cdm_flight.specs.Journal.{aobt_given, atot_given, last_value, of_flight}
use Rattle.cdm_carry.specs.Carry.{left_before}

-- each flight left its stand once at most, and took off only after that
pub record LeaveOnce (a : List Update) : Type 0 where
  pub left : (f : List ℕ) → list_any left_before (of_flight f a) ≡ option_map_or (λ m. nat_lt m 1440) (last_value aobt_given (of_flight f a)) false
  pub flown : (f : List ℕ) → last_value aobt_given (of_flight f a) ≡ None → last_value atot_given (of_flight f a) ≡ None
