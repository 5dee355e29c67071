use Rattle.std.{proofs.Common.{◌≤◌, List, ◌++◌, length, sym, ap, ◌∙◌, arith}, specs.Prelude.flat_map}
use Rattle.cdm_plan.proofs.NameLemmas.{all_taken, in_order, length-by_name, rules_by_name, rules_in, runway_is}
use Rattle.cdm_runway.specs.Rules.{RunwayRules}
use Rattle.cdm_shift.{specs.Warnings.full_cells, specs.declared.warning.Warning.Warning, proofs.ListLemmas.taken_more}
use Rattle.cdm_shift.proofs.warnings.push_all_full.Goals as goal

pub loop-place-preserved : goal.loop-place-preserved
loop-place-preserved g c =
    let d = g.R.Records.day c.args.records.now in
    let is = runway_is d c.loop-place.place _ c.runway_at.ensures.sound.airport c.runway_at.ensures.value in
    taken_more (full_cells c.args.plan.now) c.args.found.now.items c.loop-place.found.items _ (rules_in d.airport d.journal) c.loop-place.place _ is
    c.loop-place.invariant c.in_ok-push_full_at.ensures

pub returns : goal.returns
returns g c = λ runways by_name.
    let d = g.R.Records.day c.args.records.now in
    let these = rules_in d.airport d.journal in
    let long = length-by_name d these (rules_by_name d) in
    let end : length these ≤ c.loop-place.place = omega (arith, long, c.runways-place-end.ensures.value) in
    let told : List RunwayRules → List Warning = λ rs. c.args.found.now.items ++ flat_map (full_cells c.args.plan.now) rs in
    c.loop-place.invariant ∙ ap told (all_taken these c.loop-place.place end) ∙ ap told (sym (in_order d runways c.runways-place-end.ensures.sound.airport by_name))
