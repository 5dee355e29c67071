use Rattle.std.{proofs.Common.{◌≡◌, ◌++◌, take}, specs.List.concat}
use Rattle.cdm_feed.proofs.answers.push_all.Given as goal

abbrev pub invariant-loop-answer : goal.invariant-loop-answer
invariant-loop-answer l = l.text.items ≡ l.initial.text.items ++ concat (take l.answer-index l.answers)
