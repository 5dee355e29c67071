use Rattle.std.proofs.Common.{sym, ◌∙◌}
use Rattle.cdm_desk.proofs.PostLemmas.{day_taken, day_with, refused_day, word_said}
use Rattle.cdm_desk.proofs.desk_day.DeskDay.next_by.Goals as goal

pub invariant_of-self : goal.invariant_of-self
invariant_of-self c =
    let d = c.args.self.now in
    let u = c.args.update.now in
    let own = c.in_ok-own.ensures.day in
    let is = word_said d u c.in_ok-own.own _ c.word_in.result own (c.deref.ensures.value ∙ c.in_ok-next.ensures.replies) c.word_in.ensures in
    let same = refused_day d u c.in-Some.word (is ∙ c.in-Some.is) in
    day_with d u c.in_ok-own.own c.in_ok-next.next own c.in_ok-next.ensures.day ∙ sym (c.self.view_is ∙ (c.in_ok-own.ensures.same ∙ same))

pub returns-in-Some-clause-next : goal.returns-in-Some-clause-next
returns-in-Some-clause-next c =
    let d = c.args.self.now in
    let u = c.args.update.now in
    let own = c.in_ok-own.ensures.day in
    let is = word_said d u c.in_ok-own.own _ c.word_in.result own (c.deref.ensures.value ∙ c.in_ok-next.ensures.replies) c.word_in.ensures in
    is ∙ c.in-Some.is

pub returns-clause-next : goal.returns-clause-next
returns-clause-next c =
    let d = c.args.self.now in
    let u = c.args.update.now in
    let own = c.in_ok-own.ensures.day in
    let is = word_said d u c.in_ok-own.own _ c.word_in.result own (c.deref.ensures.value ∙ c.in_ok-next.ensures.replies) c.word_in.ensures in
    (is ∙ c.in-None.is, day_taken d u c.in_ok-own.own c.in_ok-next.next own c.in_ok-next.ensures.day)
