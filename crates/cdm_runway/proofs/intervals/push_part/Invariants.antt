use Rattle.std.proofs.Common.{take}
use Rattle.cdm_runway.proofs.IntervalLemmas.{IsCut}
use Rattle.cdm_runway.proofs.intervals.push_part.Given as goal

-- what the intervals so far say of the places of the part
abbrev pub invariant-loop-interval : goal.invariant-loop-interval
invariant-loop-interval g l = IsCut l.from l.to l.initial.kept.items (take l.interval-index l.listed) l.kept.items
