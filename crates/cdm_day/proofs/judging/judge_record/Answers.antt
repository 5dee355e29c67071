use Rattle.std.proofs.Common.{rules}
use Rattle.cdm_day.proofs.{ChangeLemmas.next_record, WordLemmas.{refused, unless_full}}
use Rattle.cdm_day.proofs.judging.judge_record.Goals as goal

pub returns-in-Ok : goal.returns-in-Ok
returns-in-Ok g c = search (rules, unless_full, next_record)

pub returns-in-Err : goal.returns-in-Err
returns-in-Err g c = refused c.in-Err.ensures.refused
