-- A scenario has one answer in a report.
use Rattle.std.proofs.Common.{◌≡◌, ◌∙◌, ◌++◌, ℕ, List, [], ◌∷◌, sym, ap}
use Rattle.std.specs.Prelude.{codes}
use Rattle.std.specs.List.{IsDistinct, concat}
use Rattle.cdm_flight.specs.Names.{same_name}
use Rattle.cdm_report.specs.declared.counts.Counts.{Counts}
use Rattle.cdm_report.specs.Report.{line_end}
use Rattle.cdm_plan.specs.Airport.{runway_names}
use Rattle.cdm_plan.specs.Day.{DayRecord, flights_in}
use Rattle.cdm_scenario.specs.Scenarios.{ScenarioRecord}
use Rattle.cdm_scenario.specs.declared.outcome.Outcome.{Outcome}
use Rattle.cdm_scenario.specs.inner.OneOutcome.{one_outcome}
use Rattle.cdm_feed.specs.Answers.{IsAnswer, outcome_text}

pub one_answer : (d : DayRecord) (base : Counts) (s : ScenarioRecord) → IsDistinct same_name (runway_names d.airport) → IsDistinct same_name (flights_in d.journal)
    → (x y : List ℕ) → IsAnswer d base s x → IsAnswer d base s y → x ≡ y
one_answer d base s runways flights x y a b =
    let same : a.outcome ≡ b.outcome = one_outcome d s.updates runways flights a.outcome b.outcome a.of_day b.of_day in
    a.bytes ∙ ap (λ (o : Outcome). concat (codes "SCENARIO " ∷ s.name ∷ line_end ∷ []) ++ outcome_text d.airport.day base o) same ∙ sym b.bytes
