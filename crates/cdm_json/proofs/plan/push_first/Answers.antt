use Rattle.cdm_json.proofs.Words.{◌≡◌, ◌++◌, ℕ, List, [], ◌∷◌, codes, on_ok_weaker, Json, counts_of, value_of}
use Rattle.cdm_json.{proofs.TokenLemmas.{more_parts, named_member, one_member}, specs.Plans.{count_members, day_members, rules_json}}
use Rattle.cdm_json.proofs.plan.push_first.Goals as goal

pub returns-clause-tokens : goal.returns-clause-tokens
returns-clause-tokens c =
    let plan = c.args.plan.now in
    let days = day_members c.args.day (value_of c.args.scenario.now) plan.clock in
    let counts = count_members (counts_of plan) in
    let rules : List ℕ × Json = (codes "rules", rules_json (counts_of plan)) in
    let clock : c.plan.inside.clock ≡ plan.clock = cc in
    let first = rw clock at c.in_ok-push_day.ensures.tokens in
    let second = rw c.indicators-counts.ensures at c.in_ok-push_counts.ensures.tokens in
    on_ok_weaker c.push_rules.result (λ last.
    let named = named_member _ _ _ (codes "rules") (rules_json (counts_of plan)) c.in_ok-key.ensures.ok (rw c.indicators-counts.ensures at last) in
    more_parts _ _ _ days (counts ++ rules ∷ []) first (more_parts _ _ _ counts (rules ∷ []) second (one_member _ _ rules named)))
    c.push_rules.ensures.tokens
