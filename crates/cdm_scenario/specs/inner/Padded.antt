-- How a scenario's name is kept: its bytes with zeros behind them.
use Rattle.std.specs.Prelude.{ℕ, ◌-◌, ◌≤◌, ◌==◌, ◌||◌, List, ◌++◌, length, replicate, IsTrue}
use Rattle.std.specs.List.{list_all}
use Rattle.cdm_flight.specs.Names.{is_letter_or_digit}

-- what the bytes of a name keep
abbrev pub IsScenarioName : List ℕ → Type 0
IsScenarioName text = (1 ≤ length text) × (length text ≤ 16) × IsTrue (list_all (λ byte. is_letter_or_digit byte || (byte == 45)) text)

-- a text with zeros behind it, 16 bytes in all
abbrev pub padded : List ℕ → List ℕ
padded text = text ++ replicate (16 - length text) 0
