use Rattle.cdm_scenario.proofs.Words.{◌≡◌, ◌-◌, ◌<◌, ◌≤◌, None, Some, sym, ap, ◌∙◌, length, arith, slice_get, option_and_then}
use Rattle.cdm_scenario.proofs.Words.{option_copied, get, Flight, flight_of, same_name, flights_in}
use Rattle.cdm_scenario.proofs.OverlayLemmas.{new_name, no_old_flight, old_flight}
use Rattle.cdm_scenario.proofs.laid.records.LaidRecords.flight_at.Goals as goal

pub returns-in_err-first-clause-value : goal.returns-in_err-first-clause-value
returns-in_err-first-clause-value c =
    let below : c.args.place < length (flights_in c.self.inside.base.now.journal) = omega (arith, c.flights-known.ensures.value) in
    ap option_copied c.from_residual.ensures ∙ no_old_flight c.self.invariant c.self.view_is c.flights-known.ensures.sound c.args.place below
    (sym (ap option_copied c.in_err-first.was) ∙ c.flight_at.ensures.value)

pub returns-in-Some-clause-value : goal.returns-in-Some-clause-value
returns-in-Some-clause-value c =
    let below : c.args.place < length (flights_in c.self.inside.base.now.journal) = omega (arith, c.flights-known.ensures.value) in
    old_flight c.self.invariant c.self.view_is c.flights-known.ensures.sound c.args.place below c.in_ok-first.first.now
    (sym (ap option_copied c.in_ok-first.was) ∙ c.flight_at.ensures.value) (Some c.in-Some.changed.now)
    (sym (ap option_copied c.in-Some.is) ∙ (c.get.ensures.value ∙ ap (λ (r : Flight). get same_name c.self.inside.flights r.name) c.first.view_is))

pub returns-in-None-clause-value : goal.returns-in-None-clause-value
returns-in-None-clause-value c =
    let below : c.args.place < length (flights_in c.self.inside.base.now.journal) = omega (arith, c.flights-known.ensures.value) in
    old_flight c.self.invariant c.self.view_is c.flights-known.ensures.sound c.args.place below c.in_ok-first.first.now
    (sym (ap option_copied c.in_ok-first.was) ∙ c.flight_at.ensures.value) None
    (sym (ap option_copied c.in-None.is) ∙ (c.get.ensures.value ∙ ap (λ (r : Flight). get same_name c.self.inside.flights r.name) c.first.view_is))

pub returns-in_err-name_at-clause-value : goal.returns-in_err-name_at-clause-value
returns-in_err-name_at-clause-value c =
    let d = c.args.self.now in
    let past : length (flights_in c.self.inside.base.now.journal) ≤ c.args.place = omega (arith, c.flights-known.ensures.value) in
    let named : c.name_at.result ≡ slice_get (flights_in d.journal) c.args.place =
    c.name_at.ensures ∙ (ap (λ l. slice_get l (c.args.place - c.flights-known.result)) c.deref.ensures.value
    ∙ new_name c.self.invariant c.self.view_is c.args.place (c.args.place - c.flights-known.result) past (ap (λ n. c.args.place - n) c.flights-known.ensures.value)) in
    ap option_copied c.from_residual-in_err-name_at.ensures ∙ ap (option_and_then (flight_of d.airport d.journal)) (sym c.in_err-name_at.was ∙ named)

pub returns-clause-value : goal.returns-clause-value
returns-clause-value c =
    let d = c.args.self.now in
    let past : length (flights_in c.self.inside.base.now.journal) ≤ c.args.place = omega (arith, c.flights-known.ensures.value) in
    let named : c.name_at.result ≡ slice_get (flights_in d.journal) c.args.place =
    c.name_at.ensures ∙ (ap (λ l. slice_get l (c.args.place - c.flights-known.result)) c.deref.ensures.value
    ∙ new_name c.self.invariant c.self.view_is c.args.place (c.args.place - c.flights-known.result) past (ap (λ n. c.args.place - n) c.flights-known.ensures.value)) in
    c.flight.ensures.value ∙ ap (option_and_then (flight_of d.airport d.journal)) (sym c.in_ok-name_at.was ∙ named)
