-- The window that has the candidates.
use Rattle.std.specs.Prelude.{◌≡◌, ℕ, false, Option, Some, None, ◌<◌}
use Rattle.std.specs.declared.ops.Range.{Range}
use Rattle.cdm_time.specs.Windows.{window_has}
use Rattle.cdm_time.specs.declared.tolerance.Tolerance.{Tolerance}
use Rattle.cdm_sequence.specs.Aims.{is_candidate}

-- the minutes of the window are the candidates, and there is no window where there is none
abbrev pub AreCandidates : Tolerance → ℕ → Option ℕ → Option (Range ℕ) → Type 0
AreCandidates tolerance earliest ctot (Some window) =
    (window.start < window.end) × ((m : ℕ) → window_has window.start window.end m ≡ is_candidate tolerance earliest ctot m)
AreCandidates tolerance earliest ctot None = (m : ℕ) → is_candidate tolerance earliest ctot m ≡ false
