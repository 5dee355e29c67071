use Rattle.cdm_day.proofs.{Words.{◌≡◌, Bool, not, sym, ◌∙◌, refl, arith, rules, or_right}, DayWords.refusal_of}
use Rattle.cdm_day.proofs.WordLemmas.{refused, too_many, unless_full}
use Rattle.cdm_day.proofs.judging.judge_taxi.Goals as goal

opposite : (b f v : Bool) → f ≡ not b → f ≡ v → b ≡ not v
opposite b f v e h = grind arith

pub returns-then-not-is_runway : goal.returns-then-not-is_runway
unfolding refusal_of
returns-then-not-is_runway g c = refused (rw (sym c.is_runway.ensures ∙ c.if-not-is_runway.true) refl)

pub returns-then-not-fits : goal.returns-then-not-fits
unfolding refusal_of
returns-then-not-fits g c = search (rules, too_many, opposite, or_right)

pub returns : goal.returns
unfolding refusal_of
returns g c = search (rules, too_many, opposite, unless_full)
