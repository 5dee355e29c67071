use Rattle.std.{proofs.Common.{◌≡◌, ◌-◌, ◌<◌, ◌≤◌, ℕ, true, length}, specs.Prelude.slice_get}
use Rattle.cdm_plan.specs.inner.Work.{is_standing}
use Rattle.cdm_plan.proofs.work.first_touched.Given as goal

-- those so far stand
abbrev pub invariant-loop-place : goal.invariant-loop-place
invariant-loop-place l = record {
  from : l.from ≤ l.place;
  before : (k : ℕ) → l.from ≤ k → k < l.place → is_standing l.touched (slice_get l.briefs k) ≡ true;
}

-- the places that are left
abbrev pub decreases-loop-place : goal.decreases-loop-place
decreases-loop-place l = length l.briefs - l.place
