use Rattle.std.proofs.{Common.◌≡◌, Common.◌∙◌, Common.length, Common.ap, lemmas.List.Elements.All-weaker, lemmas.Slice.Zip.AllZip-long}
use Rattle.cdm_report.specs.Report.{day_line}
use Rattle.cdm_scenario.specs.{Outcome.IsOutcome, Scenarios.ScenarioRecord, declared.outcome.Outcome.Outcome}
use Rattle.cdm_sequence.specs.declared.plan.Plan.{Plan}
use Rattle.cdm_picture.specs.{Svg.picture_text, inner.Spans.HasOutcome, inner.Spans.HaveOutcome, inner.Spans.Keeps}
use Rattle.cdm_picture.proofs.SpanLemmas.{outcome_within, plan_kept, plan_within}
use Rattle.cdm_picture.proofs.scenes.picture.Goals as goal

pub scenario_sections-requires-clause-long : goal.scenario_sections-requires-clause-long
scenario_sections-requires-clause-long g c =
    ap length c.deref-2.ensures.value
    ∙ AllZip-long (λ (s : ScenarioRecord) (o : Outcome). IsOutcome c.args.base.now s.updates o) c.args.scenarios.now c.in_ok-outcomes.outcomes.items
    c.in_ok-outcomes.ensures.of_day

pub plan_section-requires : goal.plan_section-requires
plan_section-requires g c =
    let keeps : Keeps c.with_plan.result c.with_outcomes.result = λ m h. c.with_outcomes.ensures.keeps m (c.with_closures-span.ensures m h) in
    let plan = c.plan-plan.result.now in
    plan_within c.with_outcomes.result c.hours-hours.result c.hours-hours.ensures plan
    (plan_kept c.with_plan.result c.with_outcomes.result keeps plan c.with_plan.ensures.plan)

pub scenario_sections-requires-clause-within : goal.scenario_sections-requires-clause-within
scenario_sections-requires-clause-within g c =
    let span = c.with_outcomes.result in
    let told = rw c.deref.ensures.value at c.with_outcomes.ensures.outcomes in
    rw c.deref-2.ensures.value
    (All-weaker (HasOutcome span) (HaveOutcome c.hours-hours.result) (outcome_within span c.hours-hours.result c.hours-hours.ensures) _ told)

pub returns : goal.returns
returns g c =
    let clock : c.plan.inside.clock ≡ c.plan-plan.result.now.clock = cc (ap (λ (p : Plan). p.clock) c.plan.view_is) in
    let sections = c.deref-5.ensures.value ∙ c.in_ok-sections.ensures in
    record {
      plan = c.plan-plan.result.now;
      of_day = c.plan-plan.ensures.of_day;
      hours = c.hours-hours.result;
      own = c.in_ok-own.own;
      heading = c.in_ok-own.ensures.heading ∙ (c.in_ok-heading.ensures ∙ (λ i. day_line (c.day-day.ensures i) (clock i)));
      shown = c.in_ok-own.ensures.shown;
      others = c.in_ok-others.others.items;
      of_scenarios = c.in_ok-others.ensures;
      height = c.height_of-height.result;
      legend = c.in_ok-legend.field-0.items;
      bytes = c.in_ok-text.ensures ∙ (λ i. picture_text (c.day-day.ensures i) c.height_of-height.result (c.deref-4.ensures.value i) (sections i));
    }
