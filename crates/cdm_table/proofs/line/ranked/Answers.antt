use Rattle.cdm_table.{proofs.Words.{rules, answers_always}, specs.Comparison.{blocked_in, delay_in, is_refused}}
use Rattle.cdm_table.proofs.line.ranked.Goals as goal

pub returns-clause-best_first : goal.returns-clause-best_first
returns-clause-best_first c =
    c.sort_unstable_by_key.ensures.sorted (λ l. (is_refused l.summary, blocked_in l.summary, delay_in l.summary, l.place)) (answers_always _ _ _ (λ f a r q k. search rules))
