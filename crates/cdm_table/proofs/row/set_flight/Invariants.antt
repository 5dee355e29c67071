use Rattle.cdm_table.proofs.Words.{◌≡◌, ◌∷◌, map, take, field, value_of}
use Rattle.cdm_table.proofs.row.set_flight.Given as goal

abbrev pub invariant-loop-value : goal.invariant-loop-value
invariant-loop-value l = l.fields ≡ l.scenario ∷ map (λ v. field l.day (value_of v)) (take l.value-index l.value-items)
