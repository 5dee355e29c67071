use Rattle.cdm_day.proofs.Words.{rules, day_first, day_first_one}
use Rattle.cdm_day.proofs.day.DayState.apply.Goals as goal

pub returns-clause-first : goal.returns-clause-first
returns-clause-first c = search (rules, day_first)

pub returns-clause-only : goal.returns-clause-only
returns-clause-only c = λ aims placing other plan made is_first.
    day_first_one c.in_ok-next.next aims other placing is_first (returns-clause-first c aims placing plan made)
