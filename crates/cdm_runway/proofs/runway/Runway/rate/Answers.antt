use Rattle.cdm_runway.proofs.{Words.{subst, sym, ap, ◌∙◌, arith, common_steps}, RulesLemmas.{cap_at-with_rate, are_rules-with_rate}}
use Rattle.cdm_runway.specs.{Rules.{RunwayRules, AreRules, is_rate_window}, Room.cap_at}
use Rattle.cdm_runway.proofs.runway.Runway.rate.Goals as goal

pub invariant_of-self-2 : goal.invariant_of-self-2
invariant_of-self-2 c =
    let window =
    ap (λ (r : RunwayRules). is_rate_window r.cell c.args.from c.args.to) c.self.view_is
    ∙ sym c.ordered_rate.ensures ∙ c.if-not-ordered_rate.false in
    rw (c.in_ok-set.ensures.ok, c.get.ensures.value, c.get-2.ensures.value, c.get-cell.ensures.value)
    (are_rules-with_rate c.self.inside.cell c.self.inside.caps c.self.inside.closed c.args.from c.args.to c.args.cap c.self.invariant window (omega arith))

pub returns-clause-ok : goal.returns-clause-ok
returns-clause-ok c = grind (arith, common_steps)

pub returns-clause-minutes : goal.returns-clause-minutes
returns-clause-minutes c = λ m.
    let rules = subst (λ (r : RunwayRules). AreRules r.cell r.caps r.closed) c.self.view_is c.self.invariant in
    ap (λ (r : RunwayRules). cap_at r m) (returns-clause-ok c)
    ∙ cap_at-with_rate c.args.self.now c.args.from c.args.to c.args.cap m rules (sym c.ordered_rate.ensures ∙ c.if-not-ordered_rate.false) (omega arith)
