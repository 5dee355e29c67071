-- Names made of capital letters and digits, seen as the lists of their bytes.
use Rattle.std.specs.Prelude.{ℕ, Bool, ◌&&◌, ◌||◌, nat_le, List, length, nat_eq}
use Rattle.std.specs.declared.cmp.Ordering.{Ordering}
use Rattle.std.specs.Ordering.{nat_cmp}
use Rattle.std.specs.Cmp.Lexicographic.{pointwise, slice_cmp}
use Rattle.std.specs.List.{list_all}

-- a byte of A-Z0-9
abbrev pub is_letter_or_digit : ℕ → Bool
is_letter_or_digit byte = (nat_le 65 byte && nat_le byte 90) || (nat_le 48 byte && nat_le byte 57)

-- 1 to `most` letters and digits
abbrev pub is_name : ℕ → List ℕ → Bool
is_name most text = nat_le 1 (length text) && nat_le (length text) most && list_all is_letter_or_digit text

-- two names are the same
abbrev pub same_name : List ℕ → List ℕ → Bool
same_name = pointwise nat_eq

-- the order of names, byte by byte
abbrev pub name_cmp : List ℕ → List ℕ → Ordering
name_cmp s t = slice_cmp nat_cmp s t
