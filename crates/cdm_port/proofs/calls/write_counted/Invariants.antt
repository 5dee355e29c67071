use Rattle.std.{proofs.Common.{◌≤◌, length, take}, specs.Io.KnownBytes.Appends}
use Rattle.cdm_port.proofs.calls.write_counted.Given as goal

abbrev pub invariant-loop : goal.invariant-loop
invariant-loop g l = record {
  within : l.count ≤ length l.bytes;
  written : Appends (g.W.Write.contents l.fn.writer) (g.W.Write.contents l.writer) (take l.count l.bytes);
}
