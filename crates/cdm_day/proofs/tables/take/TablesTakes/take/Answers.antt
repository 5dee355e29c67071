use Rattle.std.proofs.Common.{rules}
use Rattle.cdm_day.proofs.TableLemmas.{has_place, told_after}
use Rattle.cdm_day.proofs.tables.take.TablesTakes.take.Goals as goal

pub put-requires : goal.put-requires
put-requires c = search (rules, has_place)

pub invariant_of-self-2 : goal.invariant_of-self-2
invariant_of-self-2 c =
    rw c.in_ok-longer.ensures.longer
    (told_after _ c.args.update c.self.inside.parts c.self.invariant (rw (← c.self.view_is) at c.requires.accepted) c.args.change _
    (rw (← c.self.view_is) at c.requires.change) c.in_ok-put.ensures.ok)
