use Rattle.cdm_runway.proofs.{Words.{ap, subst, ◌∙◌, arith, common_steps}, RulesLemmas.is_closed-with_closed}
use Rattle.cdm_runway.specs.{Rules.{RunwayRules, AreRules}, Room.is_closed}
use Rattle.cdm_runway.proofs.runway.Runway.set_closed.Goals as goal

pub returns-clause-ok : goal.returns-clause-ok
returns-clause-ok c = grind (arith, common_steps)

pub returns-clause-minutes : goal.returns-clause-minutes
returns-clause-minutes c = λ m.
    let rules = subst (λ (r : RunwayRules). AreRules r.cell r.caps r.closed) c.self.view_is c.self.invariant in
    ap (λ (r : RunwayRules). is_closed r m) (returns-clause-ok c)
    ∙ is_closed-with_closed c.args.self.now c.args.from c.args.to c.args.closed m rules (omega arith) (omega arith)
