use Rattle.cdm_json.{proofs.Words.{◌∙◌, ◌++◌, [], ◌∷◌, ap, codes, print, key}, proofs.TokenLemmas.line_written, specs.Lines.head_members}
use Rattle.cdm_json.specs.{Plans.{number_of, scenario_of}, inner.Around.first_members}
use Rattle.cdm_json.proofs.plan.text_before.Goals as goal

pub returns : goal.returns
returns c =
    let head = head_members (number_of c.args.of) (codes "PLAN") in
    let first = first_members c.args.day (scenario_of c.args.of) c.args.plan.now in
    let begun = rw c.number_of-number.ensures at c.in_ok-writer.ensures.tokens in
    let more = rw c.scenario_of-scenario.ensures at c.in_ok-push_first.ensures.tokens in
    let written = line_written _ _ head first begun more in
    let tokens = c.in_ok-key.ensures.ok ∙ ap (λ ts. ts ++ key (codes "flights") ∷ []) written in
    let none = c.in_ok-key.ensures.room.0 ∙ c.in_ok-push_first.ensures.before ∙ c.in_ok-writer.ensures.before in
    c.into_inner.ensures.items ∙ (λ i. none i ++ print (tokens i))
