-- Windows of minutes, and the CTOT tolerance.
use Rattle.std.specs.Prelude.{ℕ, ◌+◌, Bool, ◌&&◌, nat_le, nat_lt}
use Rattle.cdm_time.specs.declared.tolerance.Tolerance.{Tolerance}

-- the minute is in the window, whose end is not
abbrev pub window_has : ℕ → ℕ → ℕ → Bool
window_has from to m = nat_le from m && nat_lt m to

-- the usual tolerance: 5 minutes before the CTOT and 10 after
abbrev pub usual_tolerance : Tolerance
usual_tolerance = record { before = 5; after = 10 }

-- a take-off at this minute is within the tolerance of the CTOT
abbrev pub is_in_tolerance : Tolerance → ℕ → ℕ → Bool
is_in_tolerance tolerance ctot m = nat_le ctot (m + tolerance.before) && nat_le m (ctot + tolerance.after)
