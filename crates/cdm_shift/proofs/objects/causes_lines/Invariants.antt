use Rattle.std.{proofs.Common.{◌≡◌, take}, specs.Prelude.flat_map}
use Rattle.cdm_shift.specs.Objects.{group_object}
use Rattle.cdm_shift.proofs.objects.causes_lines.Given as goal

abbrev pub invariant-loop-group : goal.invariant-loop-group
invariant-loop-group g l =
    l.text.items ≡ flat_map (group_object (g.R.Records.day l.records) l.plan l.by l.standing.items) (take l.group-index l.group-items)
