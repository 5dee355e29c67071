use Rattle.std.{proofs.Common.{◌≡◌, take}, specs.Prelude.flat_map, specs.String.string_bytes}
use Rattle.cdm_kinds.specs.Table.{role_text}
use Rattle.cdm_kinds.proofs.table.roles_text.Given as goal

abbrev pub invariant-loop-role : goal.invariant-loop-role
invariant-loop-role l = string_bytes l.text ≡ flat_map role_text (take l.role-index l.roles)
