use Rattle.std.proofs.Common.{◌-◌, ◌≤◌}
use Rattle.cdm_runway.specs.Passed.{NoneSpaced}
use Rattle.cdm_runway.proofs.load.RunwayLoad.first_spaced.Given as goal

abbrev pub invariant-loop-minute : goal.invariant-loop-minute
invariant-loop-minute l = record {
  begun : l.from ≤ l.number;
  none : NoneSpaced l.runway l.self.taken l.group l.from l.number;
}

-- the minutes that are left
abbrev pub decreases-loop-minute : goal.decreases-loop-minute
decreases-loop-minute l = l.end - l.number
