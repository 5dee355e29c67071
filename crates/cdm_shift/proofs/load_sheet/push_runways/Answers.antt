use Rattle.std.{proofs.Common.{ℕ, ◌≤◌, List, ◌++◌, length, sym, ap, ◌∙◌, arith}, specs.{List.filter, List.flat_map}}
use Rattle.cdm_plan.proofs.NameLemmas.{all_taken, in_order, length-by_name, rules_by_name, rules_in, runway_is}
use Rattle.cdm_runway.specs.Rules.{RunwayRules}
use Rattle.cdm_view.{specs.Load.is_asked, proofs.LoadLemmas.runways_more}
use Rattle.cdm_shift.specs.Sheets.{runway_sheet}
use Rattle.cdm_shift.proofs.load_sheet.push_runways.Goals as goal

pub loop-place-preserved : goal.loop-place-preserved
loop-place-preserved g c =
    let d = g.R.Records.day c.args.records.now in
    let runways = rules_in d.airport d.journal in
    let is = runway_is d c.loop-place.place _ c.runway_at.ensures.sound.airport c.runway_at.ensures.value in
    runways_more (runway_sheet c.args.airport.now c.args.plan.now) (is_asked c.args.asked.now) c.args.text.now.items c.loop-place.text.items
    c.push_asked.new.text.items runways c.loop-place.place _ is c.loop-place.invariant c.in_ok-push_asked.ensures

pub returns : goal.returns
returns g c = λ runways by_name.
    let d = g.R.Records.day c.args.records.now in
    let these = rules_in d.airport d.journal in
    let long = length-by_name d these (rules_by_name d) in
    let end : length these ≤ c.loop-place.place = omega (arith, long, c.runways-place-end.ensures.value) in
    let told : List RunwayRules → List ℕ = λ rs. c.args.text.now.items ++ flat_map (runway_sheet c.args.airport.now c.args.plan.now) (filter (is_asked c.args.asked.now) rs) in
    c.loop-place.invariant ∙ ap told (all_taken these c.loop-place.place end) ∙ ap told (sym (in_order d runways c.runways-place-end.ensures.sound.airport by_name))
