use Rattle.cdm_scenario.proofs.OverlayLemmas.{over_nothing}
use Rattle.cdm_scenario.proofs.laid.Laid.over.Goals as goal

pub invariant_of-result : goal.invariant_of-result
invariant_of-result c =
    over_nothing c.args.base.now c.new.result.items c.new-2.result c.new-3.result.items c.new-4.result c.values.result c.values.ensures.sound
    c.new.ensures.items c.new-2.ensures.empty c.new-3.ensures.items c.new-4.ensures.empty c.values.ensures.value
