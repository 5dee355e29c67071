use Rattle.cdm_table.proofs.Words.{◌≡◌, ◌++◌, concat}
use Rattle.cdm_table.proofs.answers.push_all.Given as goal

abbrev pub invariant-loop-answer : goal.invariant-loop-answer
invariant-loop-answer l = l.text.items ≡ l.fn.text.items ++ concat l.yielded
