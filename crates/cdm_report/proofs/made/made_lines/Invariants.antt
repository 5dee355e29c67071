use Rattle.std.proofs.Common.{◌≡◌, All, map, take}
use Rattle.cdm_report.specs.{Made.AreLines, declared.made.RunwayLines.RunwayLines}
use Rattle.cdm_report.proofs.made.made_lines.Given as goal

abbrev pub invariant-loop-plan : goal.invariant-loop-plan
invariant-loop-plan l = record {
  lines : All (AreLines l.day) l.made.items;
  plans : map (λ (x : RunwayLines). x.plan.now) l.made.items ≡ take l.plan-index l.runways;
}
