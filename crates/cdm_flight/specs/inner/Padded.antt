-- How a name is kept: its bytes with zeros behind them, eight in all, which can be read as one number.
use Rattle.std.specs.Prelude.{ℕ, zero, suc, ◌+◌, ◌-◌, ◌*◌, ◌^◌, ◌≤◌, List, [], ◌∷◌, ◌++◌, length, replicate, IsTrue}
use Rattle.std.specs.List.{list_all}
use Rattle.cdm_flight.specs.Names.{is_letter_or_digit}

-- what the bytes of a name keep
abbrev pub IsName : ℕ → List ℕ → Type 0
IsName most text = (1 ≤ length text) × (length text ≤ most) × IsTrue (list_all is_letter_or_digit text)

-- a text with zeros behind it, eight bytes in all
abbrev pub padded : List ℕ → List ℕ
padded text = text ++ replicate (8 - length text) 0

-- the first `count` bytes of a text as one number, the first byte first, with zeros where the text ends
abbrev pub digits : ℕ → List ℕ → ℕ
digits zero text = 0
digits (suc count) [] = 0
digits (suc count) (byte ∷ text) = byte * 256 ^ count + digits count text
