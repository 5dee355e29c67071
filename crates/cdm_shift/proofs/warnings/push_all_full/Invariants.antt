use Rattle.std.{proofs.Common.{◌≡◌, ◌++◌, take}, specs.Prelude.flat_map}
use Rattle.cdm_plan.proofs.NameLemmas.{rules_in}
use Rattle.cdm_shift.specs.Warnings.{full_cells}
use Rattle.cdm_shift.proofs.warnings.push_all_full.Given as goal

-- the runways so far
abbrev pub invariant-loop-place : goal.invariant-loop-place
invariant-loop-place g l =
    let d = g.R.Records.day l.records in
    l.found.items ≡ l.initial.found.items ++ flat_map (full_cells l.plan) (take l.place (rules_in d.airport d.journal))
