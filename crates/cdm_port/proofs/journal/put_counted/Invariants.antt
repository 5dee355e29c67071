use Rattle.cdm_port.proofs.CallLemmas.{WrittenSoFar}
use Rattle.cdm_port.proofs.journal.put_counted.Given as goal

abbrev pub invariant-loop : goal.invariant-loop
invariant-loop g l =
    WrittenSoFar (g.J.JournalFile.held l.fn.journal) (g.J.JournalFile.held l.journal) (g.J.JournalFile.calls l.fn.journal)
    (g.J.JournalFile.calls l.journal) l.bytes l.count
