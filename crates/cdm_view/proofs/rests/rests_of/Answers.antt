use Rattle.std.proofs.{Common.arith, lemmas.Grind.common_steps}
use Rattle.cdm_view.proofs.ChangeLemmas.{rests_one, rests_other, rests_shared, rests_whole}
use Rattle.cdm_view.proofs.rests.rests_of.Goals as goal

pub places-preserved-in-Equal : goal.places-preserved-in-Equal
places-preserved-in-Equal g c = grind (arith, common_steps, rests_shared)

pub places-preserved-in-Less : goal.places-preserved-in-Less
places-preserved-in-Less g c = grind (arith, common_steps, rests_one)

pub places-preserved : goal.places-preserved
places-preserved g c = grind (arith, common_steps, rests_other)

pub returns : goal.returns
returns g c =
    rw (c.in_ok-extend_from_slice.ensures.items, c.in_ok-extend_from_slice-2.ensures.items) (rests_whole _ _ _ _ _ _ c.places.invariant.rests)
