use Rattle.std.proofs.Common.{◌-◌, ◌≤◌}
use Rattle.cdm_runway.specs.Room.{AllClosed}
use Rattle.cdm_runway.proofs.runway.Runway.first_open.Given as goal

abbrev pub invariant-loop-number : goal.invariant-loop-number
invariant-loop-number l = record {
  begun : l.from ≤ l.number;
  closed : AllClosed l.self l.from l.number;
}

-- the minutes that are left
abbrev pub decreases-loop-number : goal.decreases-loop-number
decreases-loop-number l = l.end - l.number
