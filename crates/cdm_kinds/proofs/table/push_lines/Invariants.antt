use Rattle.std.{proofs.Common.{◌≡◌, ◌++◌, take}, specs.Prelude.flat_map, specs.String.string_bytes}
use Rattle.cdm_kinds.specs.Table.{field_line}
use Rattle.cdm_kinds.proofs.table.push_lines.Given as goal

abbrev pub invariant-loop-field : goal.invariant-loop-field
invariant-loop-field l = string_bytes l.text ≡ string_bytes l.initial.text ++ flat_map (field_line l.kind) (take l.field-index l.fields)
