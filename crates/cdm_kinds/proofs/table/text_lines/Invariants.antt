use Rattle.std.{proofs.Common.{◌≡◌, ◌++◌, take}, specs.Prelude.flat_map, specs.String.string_bytes}
use Rattle.cdm_kinds.specs.Table.{heading, kind_lines}
use Rattle.cdm_kinds.proofs.table.text_lines.Given as goal

abbrev pub invariant-loop-kind : goal.invariant-loop-kind
invariant-loop-kind l = string_bytes l.text ≡ heading ++ flat_map kind_lines (take l.kind-index l.kinds)
