use Rattle.cdm_table.proofs.Words.{◌≡◌, ◌∙◌, All, Ok, refl, subst, sym, CalendarDate, counts_of, IsDayPlan, IsLaid, with_updates, AreRows}
use Rattle.cdm_table.specs.{Rows.flights_text, inner.OwnRows.{IsOwnRow, csv_row}}
use Rattle.cdm_scenario.specs.declared.outcome.Outcome.TheVariants.{Planned, Refused}
use Rattle.cdm_table.proofs.csv_rows.scenario_rows.Goals as goal

pub returns-in_ok-text-in-Ok : goal.returns-in_ok-text-in-Ok
returns-in_ok-text-in-Ok c =
    let base = c.args.base.now in
    let us = c.args.scenario.now.updates in
    let plan = c.in_ok-plan-in-Ok.plan in
    let laid : IsLaid base us (Ok c.in-Ok.day) = rw (c.in-Ok.is, c.updates.ensures.value) at c.in_ok-day.ensures in
    let of_day : IsDayPlan (with_updates base us) plan = rw laid.1 at c.in_ok-plan-in-Ok.ensures.of_day in
    let made = c.in_ok-rows-in-Ok.rows in
    let rows : AreRows (with_updates base us) plan made = rw laid.1 at c.in_ok-rows-in-Ok.ensures.all in
    let text : c.in_ok-text-in-Ok.text.items ≡ flights_text base.airport.day c.args.scenario.now.name made =
    c.in_ok-text-in-Ok.ensures ∙ (λ i. flights_text (c.day.ensures i) (c.name-name.ensures i) made) in
    (Planned plan (counts_of plan), (laid.0, of_day, refl), (made, rows, text))

pub flight_rows-requires : goal.flight_rows-requires
flight_rows-requires c = subst (λ (day : CalendarDate). All (IsOwnRow (csv_row day)) c.args.own.now) (sym c.day.ensures) c.requires

pub returns-in_ok-text-in-Err : goal.returns-in_ok-text-in-Err
returns-in_ok-text-in-Err c =
    let laid = rw (c.in-Err.is, c.updates.ensures.value) at c.in_ok-day.ensures in
    (Refused c.in-Err.field-0-0 c.in-Err.word, laid, rw c.name-name.ensures at c.in_ok-text-in-Err.ensures)
