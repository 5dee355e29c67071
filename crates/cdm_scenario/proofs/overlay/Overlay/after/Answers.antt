use Rattle.std.proofs.{Common.{length, refl, sym, ◌∙◌}, lemmas.Option.slice_get_read}
use Rattle.cdm_scenario.proofs.OutcomeLemmas.{all_taken_here, none_taken, one_more_taken, refused_here}
use Rattle.cdm_scenario.proofs.overlay.Overlay.after.Goals as goal

pub loop-place-init : goal.loop-place-init
loop-place-init c = none_taken c.args.base.now c.args.updates.now c.over-overlay.result c.over-overlay.ensures

pub loop-place-preserved : goal.loop-place-preserved
loop-place-preserved c =
    let us = c.args.updates.now in
    let u = c.index-updates-place.result in
    let at = slice_get_read us (length us) c.loop-place.place u refl c.loop-place-test.true c.index-updates-place.is in
    one_more_taken c.args.base.now us c.loop-place.place u at c.loop-place.overlay c.loop-place.invariant c.apply.new.self (sym c.in-Accepted.is ∙ c.in_ok-word.ensures.reply) c.in_ok-word.ensures.ok

pub returns-in-Refused : goal.returns-in-Refused
returns-in-Refused c =
    let us = c.args.updates.now in
    let u = c.index-updates-place.result in
    let at = slice_get_read us (length us) c.loop-place.place u refl c.loop-place-test.true c.index-updates-place.is in
    refused_here c.args.base.now us c.loop-place.place u at c.loop-place.overlay c.loop-place.invariant c.in-Refused.word (sym c.in-Refused.is ∙ c.in_ok-word.ensures.reply)

pub returns : goal.returns
returns c = all_taken_here c.args.base.now c.args.updates.now c.loop-place.place c.loop-place.overlay c.loop-place.invariant c.loop-place-test.false
