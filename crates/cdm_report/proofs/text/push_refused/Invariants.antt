use Rattle.std.{proofs.Common.{◌≡◌, ◌++◌, take}, specs.Prelude.flat_map, specs.String.string_bytes}
use Rattle.cdm_report.specs.Report.{refused_line}
use Rattle.cdm_report.proofs.text.push_refused.Given as goal

abbrev pub invariant-loop-refusal : goal.invariant-loop-refusal
invariant-loop-refusal l = string_bytes l.text ≡ string_bytes l.initial.text ++ flat_map refused_line (take l.refusal-index l.refused)
