use Rattle.std.proofs.Common.{◌≤◌, ◌+◌, ◌-◌, length, take}
use Rattle.cdm_view.specs.inner.Left.{AreRests}
use Rattle.cdm_view.proofs.rests.rests_of.Given as goal

abbrev pub invariant-places : goal.invariant-places
invariant-places g l = record {
  in_one : l.place ≤ length l.one;
  in_other : l.other_place ≤ length l.other;
  rests : AreRests (take l.place l.one) (take l.other_place l.other) l.first.items l.second.items;
}

abbrev pub decreases-places : goal.decreases-places
decreases-places g l = (length l.one - l.place) + (length l.other - l.other_place)
