use Rattle.std.{proofs.Common.{◌≡◌, take}, specs.Prelude.flat_map}
use Rattle.cdm_shift.specs.Objects.{object_line, start_up_members}
use Rattle.cdm_shift.proofs.objects.next_lines.Given as goal

abbrev pub invariant-loop-found : goal.invariant-loop-found
invariant-loop-found g l = l.text.items ≡ flat_map (λ s. object_line l.day (start_up_members s)) (take l.found-index l.found-items)
