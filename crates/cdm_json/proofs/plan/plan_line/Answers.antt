use Rattle.std.proofs.Common.{◌≡◌, ◌∙◌, ap}
use Rattle.cdm_json.{specs.Plans.{flights_text, plan_line}, proofs.TokenLemmas.ok_then}
use Rattle.cdm_json.proofs.plan.plan_line.Goals as goal

pub returns : goal.returns
returns c =
    let told = c.deref.ensures.value ∙ c.in_ok-flights.ensures ∙ ap (flights_text c.args.day) c.as_slice.ensures.items in
    ok_then _ (λ text. text.items ≡ plan_line c.args.day c.args.of c.args.plan.now c.args.rows.now c.args.refused.now) c.plan_line_around.result
    (λ text is. is c.args.rows.now told)
    c.plan_line_around.ensures
