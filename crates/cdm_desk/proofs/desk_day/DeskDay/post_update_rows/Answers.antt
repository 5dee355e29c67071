use Rattle.std.proofs.Common.{◌∙◌, refl, subst}
use Rattle.cdm_plan.specs.Day.{DayRecord}
use Rattle.cdm_desk.{specs.Replies.AreChangedRows, proofs.PostLemmas.{accepted_rows, day_with}}
use Rattle.cdm_desk.proofs.desk_day.DeskDay.post_update_rows.Goals as goal

pub returns-clause-reply : goal.returns-clause-reply
returns-clause-reply c =
    let d = c.args.self.now in
    let u = c.args.update.now in
    let next = c.in-Ok.next in
    let changed = c.in_ok-changed.changed.items in
    let taken = rw c.in-Ok.is at c.in_ok-next.ensures.next in
    let was = subst (λ (x : DayRecord). AreChangedRows x next changed) (c.self.view_is ∙ c.in_ok-next.ensures.same) c.in_ok-changed.ensures.changed in
    accepted_rows d u next changed c.new.result taken.0 (day_with d u d next refl taken.1) c.new.ensures was

pub returns-clause-ok : goal.returns-clause-ok
returns-clause-ok c =
    let taken = rw c.in-Ok.is at c.in_ok-next.ensures.next in
    c.take.ensures ∙ day_with c.args.self.now c.args.update.now c.args.self.now c.in-Ok.next refl taken.1
