-- Names of scenarios, seen as the lists of their bytes.
use Rattle.std.specs.Prelude.{ℕ, ◌==◌, Bool, ◌&&◌, ◌||◌, nat_le, List, length}
use Rattle.std.specs.List.{list_all}
use Rattle.cdm_flight.specs.Names.{is_letter_or_digit}

-- 1 to 16 letters, digits and hyphens
abbrev pub is_scenario_name : List ℕ → Bool
is_scenario_name text = nat_le 1 (length text) && nat_le (length text) 16 && list_all (λ byte. is_letter_or_digit byte || (byte == 45)) text
