use Rattle.std.proofs.Common.{◌≡◌, take, map}
use Rattle.cdm_plan.proofs.NameLemmas.{rules_in}
use Rattle.cdm_plan.proofs.work.all_runways.Given as goal

-- those so far
abbrev pub invariant-loop-place : goal.invariant-loop-place
invariant-loop-place g l = let d = g.R.Records.day l.records in map (λ r. r.now) l.runways.items ≡ take l.place (rules_in d.airport d.journal)
