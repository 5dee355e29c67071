use Rattle.std.{proofs.Common.◌≡◌, proofs.Common.◌++◌, proofs.Common.take, specs.Prelude.filter, specs.Prelude.flat_map, specs.String.string_bytes}
use Rattle.cdm_plan.proofs.NameLemmas.{rules_in}
use Rattle.cdm_view.specs.Load.{is_asked, runway_load}
use Rattle.cdm_view.proofs.loading.push_runways.Given as goal

-- the runways so far
abbrev pub invariant-loop-place : goal.invariant-loop-place
invariant-loop-place g l =
    let d = g.R.Records.day l.records in
    string_bytes l.text ≡ string_bytes l.initial.text ++ flat_map (runway_load l.airport l.plan) (filter (is_asked l.asked) (take l.place (rules_in d.airport d.journal)))
