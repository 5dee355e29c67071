use Rattle.std.proofs.Common.{◌≡◌, ◌≤◌, vec_len}
use Rattle.cdm_port.specs.{Calls.HasRead, Event.journal_limit}
use Rattle.cdm_port.proofs.journal.read_whole.Given as goal

abbrev pub invariant-loop : goal.invariant-loop
invariant-loop g l = record {
  limit : vec_len l.bytes ≤ journal_limit;
  same : g.J.JournalFile.held l.journal ≡ g.J.JournalFile.held l.fn.journal;
  read :
      HasRead (g.J.JournalFile.held l.fn.journal).file (g.J.JournalFile.calls l.fn.journal) (g.J.JournalFile.calls l.journal)
      l.bytes.items;
}
