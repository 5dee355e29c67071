use Rattle.std.proofs.{Common.{◌≡◌, ◌+◌, ◌∷◌, drop, sym, ◌∙◌, subst, add-one, drop-cons, rules}, Math.ListN.drop_of_length-le}
use Rattle.cdm_day.proofs.BatchLemmas.{SoFar, so_far_more, so_far_day, so_far_replies}
use Rattle.cdm_day.proofs.draft.Draft.apply.Goals as goal

pub loop-role-preserved : goal.loop-role-preserved
loop-role-preserved c =
    let batch = c.args.batch.now in
    let k = c.loop-role.role-index in
    let p = c.loop-role-item.result in
    let day = c.loop-role.self.tables in
    let rest : drop k batch ≡ p ∷ drop (k + 1) batch = drop-cons batch k p c.loop-role-test.true ∙ (λ i. sym c.loop-role-item.is i ∷ drop (sym (add-one k) i) batch) in
    let so_far : SoFar c.args.self.now.tables batch day c.loop-role.replies.items (p ∷ drop (k + 1) batch) =
    subst (SoFar c.args.self.now.tables batch day c.loop-role.replies.items) rest c.loop-role.invariant.so_far in
    record {
      so_far = rw c.in_ok-push.ensures.items (so_far_more c.args.self.now.tables batch day c.reply_to.new.self.tables c.loop-role.replies.items p
          (drop (k + 1) batch) c.in_ok-reply.reply so_far c.in_ok-reply.ensures.day c.in_ok-reply.ensures.reply);
      since = λ first h. c.in_ok-reply.ensures.since first (c.loop-role.invariant.since first h);
    }

pub returns-clause-day : goal.returns-clause-day
returns-clause-day c = search (rules, so_far_day, drop_of_length-le)

pub returns-clause-replies : goal.returns-clause-replies
returns-clause-replies c = search (rules, so_far_replies, drop_of_length-le)
