-- How a torn last line is told.
use Rattle.std.specs.Prelude.{ℕ, ◌/◌, ◌%◌, false, List, [], ◌∷◌, ◌++◌, take, codes, nat_le, ◌&&◌, if◌then◌else◌, flat_map}
use Rattle.std.specs.Fmt.{digits}

-- a printable byte stands for itself, and another is `\x` with its two hexadecimal digits
abbrev pub byte_told : ℕ → List ℕ
byte_told byte = if nat_le 32 byte && nat_le byte 126 then byte ∷ [] else codes "\\x" ++ digits 16 false (byte / 16) ++ digits 16 false (byte % 16)

-- its first 80 bytes
abbrev pub torn_told : List ℕ → List ℕ
torn_told bytes = flat_map byte_told (take 80 bytes)
