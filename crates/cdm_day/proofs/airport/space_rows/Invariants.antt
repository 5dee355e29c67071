use Rattle.cdm_day.{proofs.Words.{◌≡◌, ℕ, ◌<◌, ◌≤◌, get_or, RunwayRow}, specs.Airport.spaced}
use Rattle.cdm_day.proofs.airport.space_rows.Given as goal

-- the rows before the place have the occupancy, and the others are as they were
abbrev pub invariant-loop-place : goal.invariant-loop-place
invariant-loop-place l = record {
  done : (k : ℕ) (d : RunwayRow) → k < l.place → get_or l.rows k d ≡ spaced l.runway l.group l.occupancy (get_or l.initial.rows k d);
  left : (k : ℕ) (d : RunwayRow) → l.place ≤ k → get_or l.rows k d ≡ get_or l.initial.rows k d;
}
