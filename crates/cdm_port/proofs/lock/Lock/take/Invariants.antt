use Rattle.cdm_port.specs.Opened.{HasMore}
use Rattle.cdm_port.proofs.lock.Lock.take.Given as goal

abbrev pub invariant-loop : goal.invariant-loop
invariant-loop g l = HasMore l.fn.disk.done.notes l.disk.done.notes
