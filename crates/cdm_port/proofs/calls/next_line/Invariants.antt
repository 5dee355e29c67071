use Rattle.cdm_port.proofs.LineLemmas.{ReadSoFar}
use Rattle.cdm_port.proofs.calls.next_line.Given as goal

abbrev pub invariant-loop : goal.invariant-loop
invariant-loop g l = ReadSoFar (g.R.Read.remaining l.fn.input) (g.R.Read.remaining l.input) l.line.items
