use Rattle.std.proofs.Common.{◌≡◌, map, take}
use Rattle.cdm_shift.proofs.sheet.set_names.Given as goal

abbrev pub invariant-loop-name : goal.invariant-loop-name
invariant-loop-name l = l.fields ≡ map (λ name. name.now) (take l.name-index l.names)
