use Rattle.cdm_day.proofs.{Words.{rules, day_first, day_first_one}, BatchLemmas.day-kept}
use Rattle.cdm_day.proofs.day.DayState.apply_all.Goals as goal

pub returns-then-journal-clause-ok : goal.returns-then-journal-clause-ok
returns-then-journal-clause-ok g c = search (rules, day-kept)

pub returns-then-journal-clause-first : goal.returns-then-journal-clause-first
returns-then-journal-clause-first g c = search (rules, day_first)

pub returns-then-journal-clause-only : goal.returns-then-journal-clause-only
returns-then-journal-clause-only g c = λ aims placing other plan made is_first.
    day_first_one c.args.self.now aims other placing is_first (returns-then-journal-clause-first g c aims placing plan made)

pub returns-clause-first : goal.returns-clause-first
returns-clause-first g c = search (rules, day_first)

pub returns-clause-only : goal.returns-clause-only
returns-clause-only g c = λ aims placing other plan made is_first.
    day_first_one c.in_ok-next.next aims other placing is_first (returns-clause-first g c aims placing plan made)
