use Rattle.std.{proofs.Common.◌≡◌, proofs.Common.◌++◌, proofs.Common.take, specs.Prelude.filter, specs.Prelude.flat_map}
use Rattle.cdm_plan.proofs.NameLemmas.{rules_in}
use Rattle.cdm_view.specs.Load.{is_asked}
use Rattle.cdm_shift.specs.Sheets.{runway_sheet}
use Rattle.cdm_shift.proofs.load_sheet.push_runways.Given as goal

-- the runways so far
abbrev pub invariant-loop-place : goal.invariant-loop-place
invariant-loop-place g l =
    let d = g.R.Records.day l.records in
    l.text.items ≡ l.initial.text.items ++ flat_map (runway_sheet l.airport l.plan) (filter (is_asked l.asked) (take l.place (rules_in d.airport d.journal)))
