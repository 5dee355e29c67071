use Rattle.cdm_files.proofs.Words.{◌≡◌, take, map, result_err}
use Rattle.cdm_files.proofs.refused.words_of.Given as goal

abbrev pub invariant-loop-spelled : goal.invariant-loop-spelled
invariant-loop-spelled l = l.words.items ≡ map result_err (take l.spelled-index l.parsed)
