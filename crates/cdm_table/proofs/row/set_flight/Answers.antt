use Rattle.cdm_table.proofs.Words.{◌≤◌, ◌∙◌, ◌∷◌, List, ℕ, ap, arith, length, map, sym, all_taken, field, value_of}
use Rattle.std.proofs.lemmas.Simd.{map-map}
use Rattle.cdm_table.proofs.row.set_flight.Goals as goal

pub returns : goal.returns
returns c =
    let day = c.args.day in
    let items = c.values.result in
    let enough : length items ≤ c.loop-value.value-index = omega (arith, c.loop-value-test.false) in
    c.loop-value.invariant
    ∙ ap (λ (fields : List (List ℕ)). c.args.scenario.now ∷ fields)
    (ap (map (λ v. field day (value_of v))) (all_taken items c.loop-value.value-index enough)
    ∙ sym (map-map (field day) value_of items) ∙ ap (map (field day)) c.values.ensures)
