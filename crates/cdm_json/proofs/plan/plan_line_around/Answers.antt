use Rattle.cdm_json.proofs.{Words.{◌≡◌, ◌∙◌, ◌++◌, ℕ, List, ap, Row}, AroundLemmas.plan_around, TokenLemmas.ok_then}
use Rattle.cdm_json.specs.{Plans.{flights_text, plan_line}, inner.Around.{text_before, text_behind}}
use Rattle.cdm_json.proofs.plan.plan_line_around.Goals as goal

pub returns : goal.returns
returns c =
    let day = c.args.day in
    let of = c.args.of in
    let plan = c.args.plan.now in
    let flights = c.args.flights.now in
    let refused = c.args.refused.now in
    let up_to = c.in_ok-extend_from_slice.ensures.items ∙ ap (λ (l : List ℕ). l ++ flights) (c.in_ok-reserve.ensures.items ∙ c.in_ok-text.ensures) in
    ok_then _ (λ text. (rows : List Row) → flights ≡ flights_text day rows → text.items ≡ plan_line day of plan rows refused) c.end_plan.result
    (λ line is rows same.
    is ∙ ap (λ (l : List ℕ). l ++ text_behind refused) (up_to ∙ ap (λ (l : List ℕ). text_before day of plan ++ l) same) ∙ plan_around day of plan rows refused)
    c.end_plan.ensures
