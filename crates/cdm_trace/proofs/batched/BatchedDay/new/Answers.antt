use Rattle.cdm_trace.proofs.BatchLemmas.{begun_clock, no_batch}
use Rattle.cdm_trace.proofs.batched.BatchedDay.new.Goals as goal

pub invariant_of-result : goal.invariant_of-result
invariant_of-result c =
    begun_clock c.args.desk c.state.result.now c.new.result.items c.values-latest.result c.new.ensures.items c.values-latest.ensures.value c.state.ensures

pub returns : goal.returns
returns c = no_batch c.args.desk c.new.result.items c.new.ensures.items
