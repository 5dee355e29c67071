use Rattle.cdm_day.proofs.{Words.{sym, ap, ◌∙◌, rules, option_copied, record_name}, DayWords.step_of, WordLemmas.{flight-unknown, stepped}}
use Rattle.cdm_day.proofs.step.flight_after.Goals as goal

pub returns-in_default-clause-refused : goal.returns-in_default-clause-refused
returns-in_default-clause-refused g c = search (rules, flight-unknown)

pub step-requires-clause-of_this : goal.step-requires-clause-of_this
step-requires-clause-of_this g c = search (rules, record_name)

pub returns : goal.returns
returns g c =
    let d = g.R.Records.day c.args.records.now in
    let r = c.in-Some.record.now in
    let says =
    stepped d c.flight.ensures.sound c.args.update.now c.taxi.result.now c.args.flight c.requires.of_flight c.requires.old c.taxi.ensures.value r
    (sym c.flight.ensures.value ∙ ap option_copied c.in-Some.is)
    c.step.result c.requires.runway (ap (λ o. step_of r c.args.update.now o) (sym c.own_exot.ensures.value) ∙ sym c.step.ensures) in
    record { refused = says.0; rest = says.1.0; after = says.1.1 }
