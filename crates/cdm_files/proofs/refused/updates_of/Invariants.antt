use Rattle.cdm_files.proofs.Words.{◌≡◌, take, filter_map, result_ok}
use Rattle.cdm_files.proofs.refused.updates_of.Given as goal

abbrev pub invariant-loop-spelled : goal.invariant-loop-spelled
invariant-loop-spelled l = l.updates.items ≡ filter_map result_ok (take l.spelled-index l.parsed)
