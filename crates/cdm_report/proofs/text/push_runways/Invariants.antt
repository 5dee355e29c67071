use Rattle.std.{proofs.Common.{◌≡◌, ◌++◌, take}, specs.Prelude.flat_map, specs.String.string_bytes}
use Rattle.cdm_report.specs.Report.{runway_lines}
use Rattle.cdm_report.proofs.text.push_runways.Given as goal

abbrev pub invariant-loop-runway : goal.invariant-loop-runway
invariant-loop-runway l = string_bytes l.text ≡ string_bytes l.initial.text ++ flat_map (runway_lines l.day) (take l.runway-index l.runways)
