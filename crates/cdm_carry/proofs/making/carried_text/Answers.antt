use Rattle.std.proofs.{Common.{◌≡◌, ◌∙◌, Ok, ap, map, refl, sym}, lemmas.Result.err_from_is_err_and}
use Rattle.cdm_files.specs.{AirportFile.airport_in, FeedDay.spelled_in, Parsing.parse_of, Records.records_of, Refused.updates_in}
use Rattle.cdm_carry.specs.Carry.{carry}
use Rattle.cdm_carry.proofs.{NoticedLemmas.{feed_asked, noticed_text, notices_asked}, MadeLemmas.{carried_feed, days_apart, next_fault}}
use Rattle.cdm_carry.proofs.making.carried_text.Goals as goal
use Rattle.cdm_carry.proofs.making.carried_text.Goals.{in-Feed+in_ok-made-in-Feed, in-Notices+in_ok-made-in-Notices}

pub returns-in_err-next-clause-fault : goal.returns-in_err-next-clause-fault
returns-in_err-next-clause-fault c =
    let p = err_from_is_err_and c.from_residual-in_err-next.result c.from_residual-in_err-next.ensures.1 in
    rw (p.1, p.2)
    (next_fault c.args.inputs.now.airport.items c.args.inputs.now.third.items c.deref.result.now c.deref-2.result.now c.in_ok-airport.airport c.in_err-next.field-0.0
    c.deref.ensures.value c.in_ok-airport.ensures.said c.deref-2.ensures.value c.in_err-next.ensures.fault)

pub returns-in-Err-clause-fault : goal.returns-in-Err-clause-fault
returns-in-Err-clause-fault c =
    days_apart c.args.inputs.now.airport.items c.args.inputs.now.third.items c.deref.result.now c.deref-2.result.now c.in_ok-airport.airport c.in_ok-next.next
    c.day.result.now c.day-2.result.now c.in-Err.days c.deref.ensures.value c.in_ok-airport.ensures.said c.deref-2.ensures.value c.in_ok-next.ensures.said
    c.day.ensures c.day-2.ensures c.in-Err.ensures.fault c.in-Err.ensures.other

pub returns-clause-made : goal.returns-clause-made
returns-clause-made c =
    let airport = c.args.inputs.now.airport.items in
    let feed = c.args.inputs.now.second.items in
    let next = c.args.inputs.now.third.items in
    let g = c.in_ok-airport.airport in
    let h = c.in_ok-next.next in
    let said : airport_in airport ≡ Ok g = sym (ap airport_in c.deref.ensures.value) ∙ c.in_ok-airport.ensures.said in
    let told : airport_in next ≡ Ok h = sym (ap airport_in c.deref-2.ensures.value) ∙ c.in_ok-next.ensures.said in
    let spelled : c.in_ok-records.records.items ≡ spelled_in g feed =
    c.in_ok-records.ensures.spelled ∙ (λ i. map (parse_of (c.day-3.ensures i)) (records_of (c.deref-3.ensures.value i))) in
    elim c.match-asked.branch [
      | in-Feed+in_ok-made-in-Feed w ↦
          let made = w.in_ok-made-in-Feed.made in
          let us = updates_in w.deref-in-Feed.result.now in
          rw w.made-is
          (feed_asked c.args.asked made.needs_care airport feed next made.text.items w.in-Feed.is
          (carried_feed airport feed next g h us (carry g us h) made.text.items c.day.result.now c.day-2.result.now h.day said told c.day.ensures c.day-2.ensures
          c.in_default.ensures.after (ap updates_in (w.deref-in-Feed.ensures.value ∙ spelled)) refl refl w.in_ok-made-in-Feed.ensures.text)
          w.in_ok-made-in-Feed.ensures.care)
      | in-Notices+in_ok-made-in-Notices w ↦
          let made = w.in_ok-made-in-Notices.made in
          rw w.made-is
          (notices_asked c.args.asked w.in-Notices.format made.needs_care airport feed next made.text.items w.in-Notices.is
          (noticed_text w.in-Notices.format airport feed next made.text.items made.needs_care g h w.deref-in-Notices.result.now c.day.result.now c.day-2.result.now said told
          c.day.ensures c.day-2.ensures c.in_default.ensures.after (w.deref-in-Notices.ensures.value ∙ spelled) w.in_ok-made-in-Notices.ensures))
    ]
