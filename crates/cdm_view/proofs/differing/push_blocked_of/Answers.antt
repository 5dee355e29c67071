use Rattle.std.proofs.Common.{map}
use Rattle.cdm_view.{specs.declared.standing.Standing.TheVariants.Blocked, proofs.ChangeLemmas.rests_map, proofs.ChangeLemmas.rests_more}
use Rattle.cdm_view.proofs.differing.push_blocked_of.Goals as goal

pub returns : goal.returns
returns c = λ first second are.
    let flights = rw (← c.deref.ensures.value, ← c.deref-2.ensures.value) at c.in_ok-flights.ensures in
    let rests = rests_map Blocked c.args.before.now c.args.after.now _ _ flights in
    rests_more first second (map Blocked c.args.before.now) (map Blocked c.args.after.now) _ _ _ _ _ _ rests
    c.in_ok-push_blocked.ensures c.in_ok-push_blocked-2.ensures are
