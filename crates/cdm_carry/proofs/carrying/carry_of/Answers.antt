use Rattle.cdm_carry.proofs.TakingLemmas.{short_taken}
use Rattle.cdm_carry.proofs.carrying.carry_of.Goals as goal

pub returns-clause-short : goal.returns-clause-short
returns-clause-short c =
    short_taken c.over.result.airport c.over.result.journal c.in_ok-carried.carried.items c.deref.result.now c.in_ok-taken.taken.items c.in_ok-taken.ensures.taken c.deref.ensures.value
    c.in_ok-carried.ensures.short
