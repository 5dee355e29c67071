use Rattle.std.proofs.Common.{◌≡◌, ◌∷◌, map, take}
use Rattle.cdm_table.specs.Rows.{refused_field}
use Rattle.cdm_table.proofs.row.refused_row.Given as goal

abbrev pub invariant-loop-name : goal.invariant-loop-name
invariant-loop-name l = l.fields ≡ l.scenario ∷ map (λ name. refused_field l.word name.now) (take l.name-index l.name-items)
