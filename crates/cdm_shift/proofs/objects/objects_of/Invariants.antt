use Rattle.std.{proofs.Common.{◌≡◌, take}, specs.Prelude.flat_map}
use Rattle.cdm_shift.specs.Objects.{object_line, warning_members}
use Rattle.cdm_shift.proofs.objects.objects_of.Given as goal

abbrev pub invariant-loop-warning : goal.invariant-loop-warning
invariant-loop-warning l = l.text.items ≡ flat_map (λ w. object_line l.day (warning_members w)) (take l.warning-index l.found)
