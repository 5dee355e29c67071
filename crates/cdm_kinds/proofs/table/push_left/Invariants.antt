use Rattle.std.{proofs.Common.{◌≡◌, ◌++◌, replicate}, specs.String.string_bytes}
use Rattle.cdm_kinds.proofs.table.push_left.Given as goal

abbrev pub invariant-loop : goal.invariant-loop
invariant-loop l = string_bytes l.text ≡ string_bytes l.initial.text ++ replicate l.counter 32
