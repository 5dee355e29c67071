use Rattle.std.{proofs.Common.{◌≡◌, ◌++◌, take}, specs.Prelude.flat_map, specs.String.string_bytes}
use Rattle.cdm_shift.specs.Lines.{start_up_line}
use Rattle.cdm_shift.proofs.text.next_text.Given as goal

abbrev pub invariant-loop-found : goal.invariant-loop-found
invariant-loop-found g l = string_bytes l.text ≡ string_bytes l.initial.text ++ flat_map (start_up_line l.day) (take l.found-index l.found-items)
