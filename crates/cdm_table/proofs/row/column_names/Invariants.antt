use Rattle.std.proofs.Common.{◌≡◌, ◌∷◌, codes, map, take}
use Rattle.cdm_table.proofs.row.column_names.Given as goal

abbrev pub invariant-loop-name : goal.invariant-loop-name
invariant-loop-name l = l.fields ≡ codes "scenario" ∷ map (λ name. name.now) (take l.name-index l.name-items)
