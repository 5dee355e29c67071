use Rattle.cdm_scenario.proofs.Words.{◌≡◌, false, Option, None, sym, ap, ◌∙◌, rules, is_some, not, option_copied, get, Flight, same_name}
use Rattle.cdm_scenario.proofs.OverlayLemmas.{flight_left}
use Rattle.cdm_scenario.proofs.laid.records.LaidRecords.known_at.Goals as goal

nothing : {X : Type 0} (o : Option X) → is_some o ≡ false → o ≡ None
nothing o h = search rules

pub returns-clause-flight : goal.returns-clause-flight
returns-clause-flight c =
    let none = nothing c.get.result (c.is_none-2.ensures ∙ ap not c.if-is_none-2.true) in
    flight_left c.self.invariant c.self.view_is c.known_at.ensures.sound c.args.place c.in-Some.first.now c.in-Some.ensures.flight
    (sym (c.get.ensures.value ∙ ap (λ (r : Flight). get same_name c.self.inside.flights r.name) c.first.view_is) ∙ ap option_copied none)
