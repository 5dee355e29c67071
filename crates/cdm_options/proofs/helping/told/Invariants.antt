use Rattle.std.proofs.Common.{◌≡◌, filter, take}
use Rattle.std.specs.Prelude.{not}
use Rattle.cdm_options.specs.Helping.{is_outdone}
use Rattle.cdm_options.proofs.helping.told.Given as goal

abbrev pub invariant-loop-helping : goal.invariant-loop-helping
invariant-loop-helping l = l.told_ones.items ≡ filter (λ h. not (is_outdone l.all h)) (take l.helping-index l.all)
