use Rattle.cdm_options.{specs.Tried.priority_tried, proofs.ListLemmas.made_more}
use Rattle.cdm_options.proofs.tried.push_priorities.Goals as goal

pub loop-number-preserved : goal.loop-number-preserved
loop-number-preserved c =
    made_more (priority_tried c.args.flight.now) _ c.loop-number.tried.items _ c.loop-number.number c.loop-number.invariant c.in_ok-push_priority.ensures
