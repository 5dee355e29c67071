use Rattle.std.proofs.Common.{◌≡◌, take, map}
use Rattle.cdm_day.specs.inner.Put.{if_named}
use Rattle.cdm_day.proofs.tables.runways.copied_runways.Given as goal

-- the runways so far
abbrev pub invariant-loop-runway : goal.invariant-loop-runway
invariant-loop-runway l = l.copies.items ≡ map (if_named l.name l.change) (take l.runway-index l.runways)
