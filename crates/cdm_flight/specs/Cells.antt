-- Cells of a runway.
use Rattle.std.specs.Prelude.{ℕ, ◌%◌, ◌==◌, Bool, ◌&&◌, nat_le}

-- from 1 to 60 minutes, so many that whole cells fill an hour
abbrev pub is_cell_length : ℕ → Bool
is_cell_length minutes = nat_le 1 minutes && nat_le minutes 60 && (60 % minutes == 0)
