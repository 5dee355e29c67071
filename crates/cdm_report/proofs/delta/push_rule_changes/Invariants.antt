use Rattle.std.{proofs.Common.{◌≡◌, ◌++◌, take}, specs.Prelude.{flat_map, zip}, specs.String.string_bytes}
use Rattle.cdm_sequence.specs.Words.{all_rules}
use Rattle.cdm_report.specs.Delta.{rule_change}
use Rattle.cdm_report.proofs.delta.push_rule_changes.Given as goal

abbrev pub invariant-loop-place : goal.invariant-loop-place
invariant-loop-place l = string_bytes l.text ≡ string_bytes l.initial.text ++ flat_map rule_change (take l.place (zip all_rules (zip l.base l.scenario)))
