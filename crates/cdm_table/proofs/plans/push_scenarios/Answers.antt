use Rattle.cdm_table.proofs.Words.{rules, arith, ◌≡◌, ◌∙◌, ◌==◌, ◌++◌, true, List, [], ◌∷◌, length, refl, sym, take-append-drop}
use Rattle.cdm_table.proofs.LeftLemmas.{leaves_all, leaves_none, leaves_others}
use Rattle.cdm_table.proofs.plans.push_scenarios.Goals as goal

none : {A : Type 0} (l : List A) → (length l == 0) ≡ true → l ≡ []
none [] h = refl
none (x ∷ l) h = absurd (search (arith, h))

pub scenarios-init : goal.scenarios-init
scenarios-init g c = leaves_all c.args.job.now.base.now c.args.scenarios.now c.args.text.now.items c.args.text.now.items refl

pub returns-then-is_empty : goal.returns-then-is_empty
returns-then-is_empty g c =
    leaves_none c.args.job.now.base.now c.args.scenarios.now c.args.text.now.items c.scenarios.left.now c.scenarios.text.items c.scenarios.invariant
    (none c.scenarios.left.now (sym c.is_empty.ensures ∙ c.if-is_empty.true))

pub scenarios-smaller : goal.scenarios-smaller
scenarios-smaller g c = search rules

pub scenarios-preserved : goal.scenarios-preserved
scenarios-preserved g c =
    leaves_others _ _ _ _ _ _ _ _ _ c.scenarios.invariant
    (sym (take-append-drop c.min.result c.scenarios.left.now) ∙ (λ i. sym c.split_at.ensures.front i ++ sym c.split_at.ensures.back i))
    c.in_ok-answers.ensures c.in_ok-push_all.ensures
