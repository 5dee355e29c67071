use Rattle.cdm_scenario.proofs.Words.{None, Some, sym, ap, subst, ◌∙◌, option_copied, get, same_name, IsRunwayAt}
use Rattle.cdm_scenario.proofs.OverlayLemmas.{over_no_runway, over_runway}
use Rattle.cdm_scenario.proofs.laid.records.LaidRecords.runway_at.Goals as goal

pub returns-in-Some-clause-value : goal.returns-in-Some-clause-value
returns-in-Some-clause-value c =
    over_runway c.self.invariant c.self.view_is c.args.place c.in_ok-runway.runway.now (Some c.in-Some.changed.now)
    (subst (IsRunwayAt _ c.args.place) (ap option_copied c.in_ok-runway.was) c.runway_at.ensures.value)
    (sym (ap option_copied c.in-Some.is) ∙ (c.get.ensures.value ∙ ap (get same_name c.self.inside.runways) c.name.ensures))

pub returns-in-None-clause-value : goal.returns-in-None-clause-value
returns-in-None-clause-value c =
    over_runway c.self.invariant c.self.view_is c.args.place c.in_ok-runway.runway.now None (subst (IsRunwayAt _ c.args.place) (ap option_copied c.in_ok-runway.was) c.runway_at.ensures.value)
    (sym (ap option_copied c.in-None.is) ∙ (c.get.ensures.value ∙ ap (get same_name c.self.inside.runways) c.name.ensures))

pub returns-in_err-runway-clause-value : goal.returns-in_err-runway-clause-value
returns-in_err-runway-clause-value c =
    let none = over_no_runway c.self.invariant c.self.view_is c.args.place (subst (IsRunwayAt _ c.args.place) (ap option_copied c.in_err-runway.was) c.runway_at.ensures.value) in
    subst (IsRunwayAt c.args.self.now c.args.place) (sym (ap option_copied c.from_residual.ensures)) none
