use Rattle.std.proofs.Common.{◌≡◌, filter, take}
use Rattle.cdm_options.specs.Tried.{is_allowed}
use Rattle.cdm_options.proofs.tried.tried_by.Given as goal

abbrev pub invariant-loop-update : goal.invariant-loop-update
invariant-loop-update l = l.tried.items ≡ filter (is_allowed l.role) (take l.update-index l.updates)
