-- A line as it is being read.
use Rattle.std.specs.Prelude.{ℕ, List, [], ◌∷◌, ◌++◌, length, nat_le, if◌then◌else◌}
use Rattle.cdm_port.specs.Event.{line_limit}

-- a line with one byte more, as far as it is kept: one byte more than a line may have shows that it is too long
abbrev pub line_with : List ℕ → ℕ → List ℕ
line_with line byte = if nat_le (length line) line_limit then line ++ byte ∷ [] else line
