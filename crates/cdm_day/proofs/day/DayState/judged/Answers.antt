use Rattle.cdm_plan.proofs.{ListWords.arc_value, KeptLemmas.{kept_since, since_itself}}
use Rattle.cdm_day.proofs.day.DayState.judged.Goals as goal

pub returns-clause-kept : goal.returns-clause-kept
returns-clause-kept c =
    let s = c.self.inside in
    let since = c.in_ok-replies.ensures.since s.tables (since_itself s.tables c.none-touched.result) in
    rw c.keep_briefs.ensures (kept_since s.tables c.apply.new.self.tables c.apply.new.self.touched (arc_value s.plan) c.self.invariant since)
