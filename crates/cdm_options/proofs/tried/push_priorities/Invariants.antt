use Rattle.std.proofs.Common.{◌≡◌, ◌++◌, map}
use Rattle.std.specs.List.{range_with_len}
use Rattle.cdm_options.specs.Tried.{priority_tried}
use Rattle.cdm_options.proofs.tried.push_priorities.Given as goal

abbrev pub invariant-loop-number : goal.invariant-loop-number
invariant-loop-number l = l.tried.items ≡ l.initial.tried.items ++ map (priority_tried l.flight) (range_with_len 0 l.number)
