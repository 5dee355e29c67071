use Rattle.std.proofs.Common.{◌≡◌, ◌==◌, ◌≤◌, ℕ, count_by}
use Rattle.cdm_board.proofs.close.are_numbered.Given as goal

abbrev pub invariant-loop-before : goal.invariant-loop-before
invariant-loop-before l = (d : ℕ) → 1 ≤ d → d ≤ l.before → count_by (λ k. k.number == d) l.desks ≡ 1
