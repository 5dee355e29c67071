use Rattle.std.proofs.Common.{map, take}
use Rattle.cdm_check.specs.{Check.AreLinesOf, Findings.finding}
use Rattle.cdm_check.proofs.check_run.refused_lines.Given as goal

abbrev pub invariant-loop-refusal : goal.invariant-loop-refusal
invariant-loop-refusal l = AreLinesOf l.format (map (finding l.path) (take l.refusal-index l.refused)) l.text.items
