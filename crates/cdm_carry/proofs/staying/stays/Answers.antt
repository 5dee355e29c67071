use Rattle.std.proofs.Common.{◌∙◌, sym, ap, false}
use Rattle.std.specs.Option.{option_map_or}
use Rattle.cdm_flight.specs.declared.flight.Flight.{Flight}
use Rattle.cdm_carry.specs.Notices.{stays_by}
use Rattle.cdm_carry.proofs.StayLemmas.{stays_is}
use Rattle.cdm_carry.proofs.staying.stays.Goals as goal

pub returns-in-Some : goal.returns-in-Some
returns-in-Some c =
    let told = stays_is c.args.day.now c.args.name c.flight.ensures.sound c.requires in
    c.stays_by.ensures ∙ ap (λ (r : Flight). stays_by r.status) c.flight-in-Some.view_is ∙ sym (told ∙ ap (λ o. option_map_or (λ (r : Flight). stays_by r.status) o false) (sym c.in-Some.ensures.value))

pub returns-in-None : goal.returns-in-None
returns-in-None c =
    let told = stays_is c.args.day.now c.args.name c.flight.ensures.sound c.requires in
    sym (told ∙ ap (λ o. option_map_or (λ (r : Flight). stays_by r.status) o false) (sym c.in-None.ensures.value))
