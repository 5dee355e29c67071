use Rattle.std.{proofs.Common.{◌≡◌, ◌++◌, take}, specs.Prelude.flat_map, specs.String.string_bytes}
use Rattle.cdm_report.specs.{Columns.flight_line, Report.line_end}
use Rattle.cdm_report.proofs.text.push_runway.Given as goal

abbrev pub invariant-loop-slot : goal.invariant-loop-slot
invariant-loop-slot l = string_bytes l.text ≡ string_bytes l.initial.text ++ flat_map (λ slot. flight_line l.day slot ++ line_end) (take l.slot-index l.slot-items)
