use Rattle.std.proofs.{Common.{◌≡◌, ◌+◌, ◌++◌, ◌∷◌, [], ◌∙◌, drop, subst}, Math.ListN.drop_of_length-le}
use Rattle.std.specs.{List.cons_option, Option.option_map}
use Rattle.cdm_carry.specs.Notices.{refused}
use Rattle.cdm_carry.proofs.TakingLemmas.{RefusedSoFar, from_here, refused_all, refused_more}
use Rattle.cdm_carry.proofs.noticing.push_refused.Goals as goal

pub loop-item-preserved : goal.loop-item-preserved
loop-item-preserved c =
    let first = c.args.next.now in
    let before = c.args.notices.now.items in
    let records = c.args.records.now in
    let day = c.loop-item.next in
    let out = c.loop-item.notices.items in
    let n = c.item-item.result in
    let k = c.loop-item.item-index in
    let rest : drop k records ≡ n ∷ drop (k + 1) records = from_here records k n c.loop-item-test.true c.item-item.is in
    let so_far : RefusedSoFar first before records day out (n ∷ drop (k + 1) records) = subst (RefusedSoFar first before records day out) rest c.loop-item.invariant in
    refused_more first before records day c.take_record.new.day out c.push_if_any.new.notices.items n (drop (k + 1) records) so_far c.in_ok-word.ensures.day
    (c.in_ok-push_if_any.ensures ∙ (λ i. out ++ cons_option (c.refused.ensures i) []) ∙ (λ i. out ++ cons_option (option_map (refused n) (c.in_ok-word.ensures.word i)) []))

pub returns : goal.returns
returns c =
    let records = c.args.records.now in
    refused_all c.args.next.now c.args.notices.now.items records c.loop-item.next c.loop-item.notices.items (drop c.loop-item.item-index records) c.loop-item.invariant
    (drop_of_length-le records c.loop-item-test.false)
