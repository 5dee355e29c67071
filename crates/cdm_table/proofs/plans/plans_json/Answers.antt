use Rattle.cdm_table.proofs.{Words.{◌∙◌, ap, IsPlanLine, plan_line}, TableLemmas.one_plans}
use Rattle.cdm_json.specs.declared.plan.PlanOf.TheVariants as of
use Rattle.cdm_table.proofs.plans.plans_json.Goals as goal

pub returns-clause-plans : goal.returns-clause-plans
returns-clause-plans g c =
    let base = c.args.base.now in
    let plan = c.plan-plan.result.now in
    let refused = c.args.refused.now in
    let made = c.in_ok-rows.rows in
    let told = c.deref-2.ensures.value ∙ c.in_ok-flights.ensures in
    let text = c.in_ok-text.ensures made told ∙ ap (λ day. plan_line day of.Day plan made refused) c.day-day.ensures in
    let line : IsPlanLine base of.Day plan refused c.in_ok-text.text.items = record { rows = made; are_rows = c.in_ok-rows.ensures.all; bytes = text } in
    let lines = c.in_ok-push_scenarios.ensures in
    record {
      plan = plan;
      of_day = c.plan-plan.ensures.of_day;
      own = c.in_ok-text.text.items;
      line = line;
      answers = lines.answers;
      of_scenarios = lines.of_scenarios;
      bytes = lines.bytes;
    }

pub returns-clause-only : goal.returns-clause-only
returns-clause-only g c = λ other is.
    let sound = c.values-values.ensures.sound in
    one_plans c.args.base.now sound.airport.names sound.names c.args.refused.now c.args.scenarios.now other _ is (returns-clause-plans g c)
