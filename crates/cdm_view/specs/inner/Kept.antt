-- The names that a list of them keeps.
use Rattle.std.specs.Prelude.{ℕ, List, [], ◌∷◌}
use Rattle.cdm_view.specs.declared.names.Kept.{Kept}
use Rattle.cdm_view.specs.declared.names.Kept.TheVariants.{One, Any}

abbrev pub names_in : Kept → List (List ℕ)
names_in (One name) = name ∷ []
names_in (Any names) = names.items
