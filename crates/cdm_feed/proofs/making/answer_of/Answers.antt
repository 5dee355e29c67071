use Rattle.std.proofs.Common.{ℕ, IfErr, IfOk, List, Option, Some, subst, sym}
use Rattle.cdm_scenario.specs.Scenarios.{ScenarioRecord}
use Rattle.cdm_feed.specs.{Made.{IsAskedOf, IsUntold, IsView}, declared.asked.DayText.TheVariants.Answer}
use Rattle.cdm_feed.proofs.making.answer_of.Goals as goal

pub returns-in-None-clause-made : goal.returns-in-None-clause-made
returns-in-None-clause-made c =
    let day = c.args.day.now in
    subst (λ (asked : Option (List ℕ)). IfOk c.answer_of_base.result (λ text. IsView c.args.asking.format c.args.asking.question (IsAskedOf asked day.state day.scenarios.items) text.items))
    (sym c.in-None.is) c.answer_of_base.ensures.made

pub returns-in-None-clause-fault : goal.returns-in-None-clause-fault
returns-in-None-clause-fault c =
    let day = c.args.day.now in
    subst (λ (asked : Option (List ℕ)). IfErr c.answer_of_base.result (IsUntold (Answer c.args.asking.question asked c.args.asking.format) day.state day.scenarios.items))
    (sym c.in-None.is) c.answer_of_base.ensures.fault

pub returns-in-Some-clause-made : goal.returns-in-Some-clause-made
returns-in-Some-clause-made c =
    let day = c.args.day.now in
    let made = subst (λ (l : List ScenarioRecord). IfOk c.answer_by.result (λ text. IsView c.args.asking.format c.args.asking.question (IsAskedOf (Some c.in-Some.name) day.state l) text.items))
    c.deref.ensures.value c.answer_by.ensures.made in
    subst (λ (asked : Option (List ℕ)). IfOk c.answer_by.result (λ text. IsView c.args.asking.format c.args.asking.question (IsAskedOf asked day.state day.scenarios.items) text.items))
    (sym c.in-Some.is) made

pub returns-in-Some-clause-fault : goal.returns-in-Some-clause-fault
returns-in-Some-clause-fault c =
    let day = c.args.day.now in
    let fault = subst (λ (l : List ScenarioRecord). IfErr c.answer_by.result (IsUntold (Answer c.args.asking.question (Some c.in-Some.name) c.args.asking.format) day.state l))
    c.deref.ensures.value c.answer_by.ensures.fault in
    subst (λ (asked : Option (List ℕ)). IfErr c.answer_by.result (IsUntold (Answer c.args.asking.question asked c.args.asking.format) day.state day.scenarios.items))
    (sym c.in-Some.is) fault
