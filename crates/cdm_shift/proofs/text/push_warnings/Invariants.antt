use Rattle.std.{proofs.Common.{◌≡◌, ◌++◌, take}, specs.Prelude.flat_map, specs.String.string_bytes}
use Rattle.cdm_shift.specs.Lines.{warning_line}
use Rattle.cdm_shift.proofs.text.push_warnings.Given as goal

abbrev pub invariant-loop-warning : goal.invariant-loop-warning
invariant-loop-warning l = string_bytes l.text ≡ string_bytes l.initial.text ++ flat_map (warning_line l.day) (take l.warning-index l.found)
