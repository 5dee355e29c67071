use Rattle.cdm_table.proofs.Words.{◌≡◌, ◌∙◌, [], Ok, refl, counts_of, IsDayPlan, IsLaid, with_updates, AreRows, IsPlanLine, plan_line}
use Rattle.cdm_scenario.specs.declared.outcome.Outcome.TheVariants.{Planned, Refused}
use Rattle.cdm_json.specs.declared.plan.PlanOf.TheVariants as of
use Rattle.cdm_table.proofs.plans.scenario_line.Goals as goal

pub returns-in_ok-line-in-Ok : goal.returns-in_ok-line-in-Ok
returns-in_ok-line-in-Ok c =
    let base = c.args.base.now in
    let s = c.args.scenario.now in
    let plan = c.in_ok-plan-in-Ok.plan in
    let laid : IsLaid base s.updates (Ok c.in-Ok.day) = rw (c.in-Ok.is, c.updates.ensures.value) at c.in_ok-day.ensures in
    let of_day : IsDayPlan (with_updates base s.updates) plan = rw laid.1 at c.in_ok-plan-in-Ok.ensures.of_day in
    let made = c.in_ok-rows-in-Ok.rows in
    let rows : AreRows (with_updates base s.updates) plan made = rw laid.1 at c.in_ok-rows-in-Ok.ensures.all in
    let told = c.deref.ensures.value ∙ c.in_ok-flights-in-Ok.ensures in
    let text : c.in_ok-line-in-Ok.line.items ≡ plan_line base.airport.day (of.Scenario s.name) plan made [] =
    c.in_ok-line-in-Ok.ensures made told ∙ (λ i. plan_line (c.day-date.ensures i) (of.Scenario (c.name-name.ensures i)) plan made []) in
    let line : IsPlanLine (with_updates base s.updates) (of.Scenario s.name) plan [] c.in_ok-line-in-Ok.line.items =
    record { rows = made; are_rows = rows; bytes = text } in
    (Planned plan (counts_of plan), (laid.0, of_day, refl), line)

pub returns-in_ok-line-in-Err : goal.returns-in_ok-line-in-Err
returns-in_ok-line-in-Err c =
    let laid = rw (c.in-Err.is, c.updates.ensures.value) at c.in_ok-day.ensures in
    (Refused c.in-Err.number c.in-Err.word, laid, rw c.name-name.ensures at c.in_ok-line-in-Err.ensures)
