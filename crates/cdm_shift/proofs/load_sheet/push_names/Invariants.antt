use Rattle.std.{proofs.Common.◌≡◌, proofs.Common.◌∷◌, proofs.Common.◌++◌, proofs.Common.take, specs.Prelude.flat_map, specs.String.string_bytes}
use Rattle.cdm_view.specs.Load.{flights_in_cell}
use Rattle.cdm_shift.proofs.load_sheet.push_names.Given as goal

abbrev pub invariant-loop-slot : goal.invariant-loop-slot
invariant-loop-slot l = string_bytes l.text ≡ string_bytes l.initial.text ++ flat_map (λ s. 32 ∷ s.name) (flights_in_cell l.runway (take l.slot-index l.slots) l.cell)
