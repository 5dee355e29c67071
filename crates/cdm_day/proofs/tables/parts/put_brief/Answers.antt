use Rattle.std.proofs.{Common.rules, lemmas.Bool.cases_lt}
use Rattle.cdm_day.proofs.BriefLemmas.{put_at-past, put_at-within}
use Rattle.cdm_day.proofs.tables.parts.put_brief.Goals as goal

pub returns-in-Some : goal.returns-in-Some
returns-in-Some c = search (rules, put_at-within)

pub returns-in_ok-push-in-None : goal.returns-in_ok-push-in-None
returns-in_ok-push-in-None c = search (rules, cases_lt, put_at-past)
