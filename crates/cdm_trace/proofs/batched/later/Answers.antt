use Rattle.std.proofs.Common.{arith}
use Rattle.cdm_trace.proofs.BatchLemmas.{none_named}
use Rattle.cdm_trace.proofs.batched.later.Goals as goal

pub returns-in_default-clause-named : goal.returns-in_default-clause-named
returns-in_default-clause-named c = omega (arith, none_named c.args.update.now c.in_default.not-Clock)
