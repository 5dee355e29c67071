-- Runs of minutes that have the same reason.
use Rattle.std.specs.Prelude.{◌≡◌, ℕ, ◌+◌, ◌<◌, ◌≤◌, List, [], ◌∷◌, Option, None, Some}
use Rattle.cdm_view.specs.declared.reason.Reason.{Reason}
use Rattle.cdm_view.specs.declared.runs.Run.{Run}

-- the first run of the minutes from `from` up to `to`: no minute before it has a reason, each of its own has the run's,
-- and the one after it, if there is one, has another or none
pub record IsNextRun (reason : ℕ → Option Reason) (from to : ℕ) (run : Run) : Type 0 where
  pub after : from ≤ run.first
  pub order : run.first ≤ run.last
  pub within : run.last < to
  pub none_before : (m : ℕ) → from ≤ m → m < run.first → reason m ≡ None
  pub held : (m : ℕ) → run.first ≤ m → m ≤ run.last → reason m ≡ Some run.reason
  pub longest : run.last + 1 < to → reason (run.last + 1) ≡ Some run.reason → ⊥

-- these are the runs of the minutes from `from` up to `to`, each as long as it can be
unfoldable pub AreRuns : (ℕ → Option Reason) → ℕ → ℕ → List Run → Type 0
AreRuns reason from to [] = (m : ℕ) → from ≤ m → m < to → reason m ≡ None
AreRuns reason from to (run ∷ later) = IsNextRun reason from to run × AreRuns reason (run.last + 1) to later
