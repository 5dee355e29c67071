use Rattle.cdm_options.{specs.Helping.helping_at, proofs.ListLemmas.number_more}
use Rattle.cdm_options.proofs.helping.all_helping.Goals as goal

pub loop-place-preserved : goal.loop-place-preserved
loop-place-preserved c =
    number_more (helping_at c.args.before.now c.args.updates.now c.args.effects.now) c.loop-place.found.items _ c.loop-place.place c.loop-place.invariant c.in_ok-push_at.ensures
