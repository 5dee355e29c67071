-- Letters, digits and hyphens are ASCII.
use Rattle.cdm_scenario.proofs.Words.{common_steps, ℕ, ◌<◌, ◌==◌, Bool, ◌||◌, List, slice_index, IsTrue, arith, is_letter_or_digit}
use Rattle.cdm_scenario.specs.Names.{is_scenario_name}

abbrev is_name_byte : ℕ → Bool
is_name_byte byte = is_letter_or_digit byte || (byte == 45)

pub ascii-of_name : (xs : List ℕ) → IsTrue (is_scenario_name xs) → (k : ℕ) → slice_index xs k < 128
ascii-of_name xs h = grind (arith, common_steps)
