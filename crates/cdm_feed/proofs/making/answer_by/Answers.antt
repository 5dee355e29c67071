use Rattle.std.proofs.Common.{Some, sym}
use Rattle.cdm_scenario.specs.Outcome.{IsLaid}
use Rattle.cdm_feed.specs.{Made.{IsAskedOf, IsUntold, IsView}, declared.asked.DayText.TheVariants.Answer, inner.Over.IsUntoldOver}
use Rattle.cdm_feed.proofs.AskedLemmas.{err-then, ok-then, untold-of, view-of}
use Rattle.cdm_feed.proofs.making.answer_by.Goals as goal

pub returns-in-Some-clause-made : goal.returns-in-Some-clause-made
returns-in-Some-clause-made c =
    let question = c.args.asking.question in
    let format = c.args.asking.format in
    let base = c.args.base.now in
    let scenarios = c.args.scenarios.now in
    let name = c.args.name in
    let s = c.in-Some.scenario.now in
    ok-then (λ text. IsView format question (IsLaid base s.updates) text.items) (λ text. IsView format question (IsAskedOf (Some name) base scenarios) text.items)
    c.answer_over.result (λ text is. view-of question format base scenarios name s (sym c.in-Some.ensures) text.items is) c.answer_over.ensures.made

pub returns-in-Some-clause-fault : goal.returns-in-Some-clause-fault
returns-in-Some-clause-fault c =
    let question = c.args.asking.question in
    let format = c.args.asking.format in
    let base = c.args.base.now in
    let scenarios = c.args.scenarios.now in
    let name = c.args.name in
    let s = c.in-Some.scenario.now in
    err-then (IsUntoldOver question base name s) (IsUntold (Answer question (Some name) format) base scenarios)
    c.answer_over.result (λ e is. untold-of question format base scenarios name s (sym c.in-Some.ensures) e is) c.answer_over.ensures.fault
