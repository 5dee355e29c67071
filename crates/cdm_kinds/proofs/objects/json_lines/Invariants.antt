use Rattle.std.{proofs.Common.{◌≡◌, take}, specs.Prelude.flat_map}
use Rattle.cdm_kinds.specs.Table.{json_line}
use Rattle.cdm_kinds.proofs.objects.json_lines.Given as goal

abbrev pub invariant-loop-kind : goal.invariant-loop-kind
invariant-loop-kind l = l.text.items ≡ flat_map json_line (take l.kind-index l.kinds)
