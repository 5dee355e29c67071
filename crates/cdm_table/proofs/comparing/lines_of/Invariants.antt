use Rattle.std.proofs.Common.{◌≡◌, take}
use Rattle.cdm_table.specs.Comparison.{all_lines}
use Rattle.cdm_table.proofs.comparing.lines_of.Given as goal

abbrev pub invariant-loop-place : goal.invariant-loop-place
invariant-loop-place l = l.lines.items ≡ all_lines l.fn.counts (take l.place l.tries) (take l.place l.summaries)
