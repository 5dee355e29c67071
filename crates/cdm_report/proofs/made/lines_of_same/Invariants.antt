use Rattle.std.proofs.Common.{◌≤◌, length}
use Rattle.cdm_report.proofs.made.lines_of_same.Given as goal

abbrev pub invariant-loop-lines : goal.invariant-loop-lines
invariant-loop-lines l = l.lines-index ≤ length l.made
