use Rattle.cdm_day.proofs.{Words.{◌≡◌, ◌++◌, take, drop, map, length, ap, ◌∙◌, arith, common_steps}, AirportLemmas.airport_with_space}
use Rattle.cdm_day.specs.Airport.{spaced}
use Rattle.cdm_day.proofs.airport.Airport.add_space.Goals as goal

pub invariant_of-self : goal.invariant_of-self
invariant_of-self c =
    let inside = c.self.inside in
    let f = spaced c.args.runway c.args.group c.args.occupancy in
    let after = c.space_rows.new.rows in
    let set : after ≡ map f inside.runways.items = c.space_rows.ensures ∙ ap (map f) c.deref_mut.ensures.value in
    let back : take inside.runways.len (after ++ drop (length after) inside.runways.items) ≡ map f inside.runways.items =
    grind (arith, common_steps, set, c.deref_mut.ensures.len, c.deref_mut.ensures.value) in
    rw back (airport_with_space c.args.runway c.args.group c.args.occupancy _ c.self.invariant)
