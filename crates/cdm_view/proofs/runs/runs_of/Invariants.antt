use Rattle.std.proofs.Common.{◌≡◌, ◌+◌, ◌≤◌, ◌⊎◌}
use Rattle.cdm_view.specs.{inner.Earlier.IsAhead, Reasons.reason_at, Runs.AreRuns}
use Rattle.cdm_view.proofs.runs.runs_of.Given as goal

abbrev pub invariant-loop-number : goal.invariant-loop-number
invariant-loop-number l = record {
  runs : AreRuns (reason_at l.waiting) (l.waiting.tobt + l.waiting.exot) l.number l.runs.items;
  ahead : IsAhead l.waiting l.number l.ahead;
  short : (l.number ≤ l.number-end) ⊎ (l.number ≡ l.initial.number);
}
