use Rattle.std.{proofs.Common.take, specs.List.AllZip}
use Rattle.cdm_picture.specs.Pictures.{IsScenarioDrawn}
use Rattle.cdm_picture.proofs.scenes.scenario_sections.Given as goal

abbrev pub invariant-loop-place : goal.invariant-loop-place
invariant-loop-place l = AllZip (IsScenarioDrawn l.base l.page.hours) (take l.place l.scenarios) l.sections.items
