use Rattle.cdm_day.proofs.Words.{◌≡◌, ℕ, ◌≤◌, ◌<◌, true, false, arith, rules, nat_le, or_right, nat_tests}
use Rattle.cdm_day.proofs.{DayWords.{refusal_of, flight_of-fresh}, WordLemmas.{flt-word, known_is, unless_full}}
use Rattle.cdm_day.proofs.judging.judge_new.Goals as goal

many : (n : ℕ) → 2000 ≤ n → nat_le 2000 n ≡ true
many n h = grind (arith, nat_tests)

few : (n : ℕ) → n < 2000 → nat_le 2000 n ≡ false
few n h = grind (arith, nat_tests)

pub returns-then-is_some : goal.returns-then-is_some
unfolding refusal_of
returns-then-is_some g c = search (rules, known_is)

pub returns-then-flights-ge-MOST_FLIGHTS : goal.returns-then-flights-ge-MOST_FLIGHTS
returns-then-flights-ge-MOST_FLIGHTS g c = search (rules, known_is, flt-word, or_right, many)

pub returns : goal.returns
returns g c = search (rules, known_is, few, flt-word, unless_full, flight_of-fresh)
