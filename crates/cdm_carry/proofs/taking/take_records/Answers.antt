use Rattle.std.proofs.{Common.{◌≡◌, ◌+◌, ◌++◌, ◌∷◌, [], ◌∙◌, drop, subst}, Math.ListN.drop_of_length-le}
use Rattle.std.specs.Prelude.{is_none, if◌then◌else◌}
use Rattle.cdm_carry.proofs.TakingLemmas.{TakenSoFar, from_here, taken_all, taken_day, taken_more}
use Rattle.cdm_carry.proofs.taking.take_records.Goals as goal

pub loop-record-preserved : goal.loop-record-preserved
loop-record-preserved c =
    let first = c.args.day.now in
    let records = c.args.records.now in
    let day = c.loop-record.day in
    let out = c.loop-record.taken.items in
    let p = c.record-item.result in
    let k = c.loop-record.record-index in
    let rest : drop k records ≡ p ∷ drop (k + 1) records = from_here records k p c.loop-record-test.true c.record-item.is in
    let so_far : TakenSoFar first records day out (p ∷ drop (k + 1) records) = subst (TakenSoFar first records day out) rest c.loop-record.invariant in
    taken_more first records day c.take_record.new.day out c.push_unless.new.records.items p (drop (k + 1) records) so_far c.in_ok-word.ensures.day
    (c.in_ok-push_unless.ensures ∙ (λ i. if is_none (c.in_ok-word.ensures.word i) then out ++ p ∷ [] else out))

pub returns-clause-taken : goal.returns-clause-taken
returns-clause-taken c =
    let records = c.args.records.now in
    taken_all c.args.day.now records c.loop-record.day c.loop-record.taken.items (drop c.loop-record.record-index records) c.loop-record.invariant
    (drop_of_length-le records c.loop-record-test.false)

pub returns-clause-day : goal.returns-clause-day
returns-clause-day c =
    let records = c.args.records.now in
    taken_day c.args.day.now records c.loop-record.day c.loop-record.taken.items (drop c.loop-record.record-index records) c.loop-record.invariant
    (drop_of_length-le records c.loop-record-test.false)
