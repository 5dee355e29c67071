use Rattle.std.proofs.{Common.{◌≡◌, ◌+◌, ◌∷◌, drop, subst}, Math.ListN.drop_of_length-le}
use Rattle.cdm_carry.proofs.TakingLemmas.{NumberedSoFar, from_here, numbered_all, numbered_day, numbered_more}
use Rattle.cdm_carry.proofs.taking.take_feed.Goals as goal

pub loop-place-preserved : goal.loop-place-preserved
loop-place-preserved c =
    let first = c.args.day.now in
    let records = c.args.records.now in
    let day = c.loop-place.day in
    let out = c.loop-place.taken.items in
    let s = c.index-records-place.result in
    let k = c.loop-place.place in
    let rest : drop k records ≡ s ∷ drop (k + 1) records = from_here records k s c.loop-place-test.true c.index-records-place.is in
    let so_far : NumberedSoFar first records day out (k + 1) (s ∷ drop (k + 1) records) =
    subst (NumberedSoFar first records day out (k + 1)) rest c.loop-place.invariant in
    numbered_more first records day c.take_spelled.new.day out c.take_spelled.new.taken.items (k + 1) s (drop (k + 1) records) so_far
    c.in_ok-take_spelled.ensures.day c.in_ok-take_spelled.ensures.taken

pub returns-clause-taken : goal.returns-clause-taken
returns-clause-taken c =
    let records = c.args.records.now in
    numbered_all c.args.day.now records c.loop-place.day c.loop-place.taken.items (c.loop-place.place + 1) (drop c.loop-place.place records) c.loop-place.invariant
    (drop_of_length-le records c.loop-place-test.false)

pub returns-clause-day : goal.returns-clause-day
returns-clause-day c =
    let records = c.args.records.now in
    numbered_day c.args.day.now records c.loop-place.day c.loop-place.taken.items (c.loop-place.place + 1) (drop c.loop-place.place records) c.loop-place.invariant
    (drop_of_length-le records c.loop-place-test.false)
