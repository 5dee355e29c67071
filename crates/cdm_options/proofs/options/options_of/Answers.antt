use Rattle.std.proofs.Common.{rules}
use Rattle.cdm_flight.specs.Journal.{flight_of}
use Rattle.cdm_options.proofs.OptionLemmas.{one_has}
use Rattle.cdm_options.proofs.options.options_of.Goals as goal

pub returns-clause-only : goal.returns-clause-only
returns-clause-only g c = λ other is.
    let d = c.args.base.now in
    let sound = c.values-values.ensures.sound in
    one_has d sound.airport.names sound.names (flight_of d.airport d.journal c.args.name) c.args.role other _ is (search rules)
