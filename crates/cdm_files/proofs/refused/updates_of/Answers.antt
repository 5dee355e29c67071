use Rattle.cdm_files.proofs.{Words.{arith, common_steps, filter_map-append}, refused.updates_of.Goals.{in-Ok+in_ok-push_last, in_default}}
use Rattle.cdm_files.proofs.refused.updates_of.Goals as goal

pub loop-spelled-preserved : goal.loop-spelled-preserved
loop-spelled-preserved c = elim c.match-spelled.branch [
  | in-Ok+in_ok-push_last w ↦ grind (arith, common_steps, filter_map-append)
  | in_default w ↦ grind (arith, common_steps, filter_map-append)
]
