use Rattle.std.proofs.Common.{◌≡◌, ◌++◌, take}
use Rattle.cdm_plan.proofs.PlanWords.{kept_blocked}
use Rattle.cdm_plan.proofs.kept.Kept.push_blocked.Given as goal

abbrev pub invariant-loop-flight : goal.invariant-loop-flight
invariant-loop-flight g l =
    l.others.items ≡ l.fn.others.items ++ kept_blocked (g.D.Records.day l.records) l.self.touched.now (take l.flight-index l.blocked)
