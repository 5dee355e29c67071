use Rattle.cdm_day.proofs.{Words.{◌≡◌, ℕ, ◌≤◌, ◌<◌, true, false, arith, rules, nat_le, nat_lt, nat_tests}, ChangeLemmas.closure_changes}
use Rattle.cdm_day.proofs.WordLemmas.{closure-word, some_there, unless_full}
use Rattle.cdm_day.proofs.judging.judge_closure.Goals as goal

empty : (from to : ℕ) → to ≤ from → nat_le to from ≡ true
empty from to h = grind (arith, nat_tests)

ordered : (from to : ℕ) → from < to → (nat_le to from ≡ false) × (nat_lt from to ≡ true)
ordered from to h = (grind (arith, nat_tests), grind (arith, nat_tests))

pub returns-then-not-is_runway : goal.returns-then-not-is_runway
returns-then-not-is_runway g c = search (rules, closure-word)

pub returns-then-get : goal.returns-then-get
returns-then-get g c = search (rules, closure-word, empty)

pub returns : goal.returns
returns g c = search (rules, ordered, some_there, unless_full, closure-word, closure_changes)
