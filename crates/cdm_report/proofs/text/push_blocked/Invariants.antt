use Rattle.std.{proofs.Common.{◌≡◌, ◌++◌, take}, specs.Prelude.flat_map, specs.String.string_bytes}
use Rattle.cdm_report.specs.Report.{blocked_line}
use Rattle.cdm_report.proofs.text.push_blocked.Given as goal

abbrev pub invariant-loop-flight : goal.invariant-loop-flight
invariant-loop-flight l = string_bytes l.text ≡ string_bytes l.initial.text ++ flat_map blocked_line (take l.flight-index l.flights)
