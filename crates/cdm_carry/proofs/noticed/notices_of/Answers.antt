use Rattle.std.proofs.Common.{◌≡◌, ◌∙◌, [], ap, subst, sym}
use Rattle.cdm_flight.specs.Accepted.{accepted}
use Rattle.cdm_plan.specs.Day.{DayRecord}
use Rattle.cdm_files.specs.Refused.{updates_in}
use Rattle.cdm_carry.specs.{Notices.numbered, inner.Leaving.LeaveOnce}
use Rattle.cdm_carry.proofs.{NoticedLemmas.{are_notices, notices_short}, StayLemmas.leave_once}
use Rattle.cdm_carry.proofs.noticed.notices_of.Goals as goal

pub carried_numbered-requires : goal.carried_numbered-requires
carried_numbered-requires c =
    let updates = updates_in c.args.records.now in
    subst (λ (d : DayRecord). LeaveOnce d.journal)
    (sym (c.in_ok-records.ensures.day ∙ ap (λ (d : DayRecord). record d { journal = accepted d.airport d.journal updates }) (c.over-day.ensures ∙ c.in_ok-first.ensures)))
    (leave_once c.args.airport updates)

pub returns-clause-value : goal.returns-clause-value
returns-clause-value c =
    let spelled = c.args.records.now in
    let begins : c.over-day.result ≡ record { airport = c.args.airport; journal = [] } = c.over-day.ensures ∙ c.in_ok-first.ensures in
    let day = c.in_ok-records.ensures.day ∙ ap (λ (d : DayRecord). record d { journal = accepted d.airport d.journal (updates_in spelled) }) begins in
    are_notices c.args.airport spelled c.take_feed.new.day day c.args.next c.in_ok-flights.flights.items c.in_ok-records.records.items c.deref.result.now
    c.in_ok-carried.carried.items (c.in_ok-records.ensures.taken ∙ (λ i. numbered (begins i).airport (begins i).journal 1 spelled)) c.deref.ensures.value
    c.in_ok-carried.ensures.value c.over-next.result c.in_ok-notices.notices.items c.push_refused.new.notices.items c.push_counts.new.notices.items
    c.deref-2.result.now c.deref-4.result.now c.deref-3.result.now c.in_ok-flights.ensures.all c.in_ok-flights.ensures.by_name
    (c.over-next.ensures ∙ c.in_ok-next.ensures) c.in_ok-notices.ensures c.deref-2.ensures.value c.in_ok-push_refused.ensures c.deref-3.ensures.value
    c.in_ok-push_counts.ensures c.deref-4.ensures.value

pub returns-clause-short : goal.returns-clause-short
returns-clause-short c =
    let spelled = c.args.records.now in
    let begins : c.over-day.result ≡ record { airport = c.args.airport; journal = [] } = c.over-day.ensures ∙ c.in_ok-first.ensures in
    let day = c.in_ok-records.ensures.day ∙ ap (λ (d : DayRecord). record d { journal = accepted d.airport d.journal (updates_in spelled) }) begins in
    notices_short c.args.airport spelled c.take_feed.new.day day c.args.next c.in_ok-flights.flights.items c.in_ok-records.records.items c.deref.result.now
    c.in_ok-carried.carried.items (c.in_ok-records.ensures.taken ∙ (λ i. numbered (begins i).airport (begins i).journal 1 spelled)) c.deref.ensures.value
    c.in_ok-carried.ensures.value c.over-next.result c.in_ok-notices.notices.items c.push_refused.new.notices.items c.push_counts.new.notices.items
    c.deref-2.result.now c.deref-4.result.now c.deref-3.result.now c.in_ok-carried.ensures.short
    (c.over-next.ensures ∙ c.in_ok-next.ensures) c.in_ok-notices.ensures c.deref-2.ensures.value c.in_ok-push_refused.ensures c.deref-3.ensures.value
    c.in_ok-push_counts.ensures c.deref-4.ensures.value
