use Rattle.std.proofs.Common.{◌≡◌}
use Rattle.cdm_serve.proofs.Ran.{Ran}
use Rattle.cdm_serve.proofs.serving.serve_lines.Given as goal

-- some lines have been served, and no call of the port has failed
abbrev pub invariant-lines : goal.invariant-lines
invariant-lines g l = record {
  ran : Ran l.fn.form l.fn.day.desk l.fn.day.number l.day.desk l.day.number l.counter (g.P.Port.events l.fn.port) (g.P.Port.events l.port);
  unfailed : g.P.Port.fault l.port ≡ g.P.Port.fault l.fn.port;
}
