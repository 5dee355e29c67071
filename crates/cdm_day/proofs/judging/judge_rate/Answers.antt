use Rattle.std.proofs.Common.{rules}
use Rattle.cdm_day.proofs.{ChangeLemmas.rate_changes, WordLemmas.{rate-word, unless_full}}
use Rattle.cdm_day.proofs.judging.judge_rate.Goals as goal

pub returns-in_default : goal.returns-in_default
returns-in_default g c = search (rules, rate-word)

pub returns-then-not-ordered_rate : goal.returns-then-not-ordered_rate
returns-then-not-ordered_rate g c = search (rules, rate-word)

pub returns : goal.returns
returns g c = search (rules, rate-word, unless_full, rate_changes)
