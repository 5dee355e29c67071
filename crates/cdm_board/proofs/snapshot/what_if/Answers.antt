use Rattle.std.{proofs.Common.◌≡◌, proofs.Common.List, proofs.Common.subst, specs.Prelude.IfOk, specs.List.AllZip}
use Rattle.cdm_plan.specs.Day.{DayRecord}
use Rattle.cdm_scenario.specs.{Outcome.IsOutcome, Scenarios.ScenarioRecord, declared.outcome.Outcome.Outcome}
use Rattle.cdm_board.proofs.snapshot.what_if.Goals as goal

AreOutcomes : DayRecord → List ScenarioRecord → List Outcome → Type 0
AreOutcomes d = AllZip (λ scenario outcome. IsOutcome d scenario.updates outcome)

pub returns-clause-of_day : goal.returns-clause-of_day
unfolding AreOutcomes
returns-clause-of_day g c =
    subst (λ (d : DayRecord). IfOk c.answer_all.result (λ outcomes. AreOutcomes d c.args.scenarios.now outcomes.items)) c.state.ensures c.answer_all.ensures.of_day

pub returns-clause-only : goal.returns-clause-only
unfolding AreOutcomes
returns-clause-only g c =
    subst (λ (d : DayRecord). IfOk c.answer_all.result (λ outcomes. (others : List Outcome) → AreOutcomes d c.args.scenarios.now others → others ≡ outcomes.items))
    c.state.ensures c.answer_all.ensures.only
