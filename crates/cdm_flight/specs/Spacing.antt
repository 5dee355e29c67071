-- Groups of flights, and for how long each occupies a runway.
use Rattle.std.specs.Prelude.{ℕ, List, [], ◌∷◌, codes, bytes_eq, find, Option, option_map}
use Rattle.cdm_flight.specs.declared.group.Group.{Group}
use Rattle.cdm_flight.specs.declared.group.Group.TheVariants.{Light, Medium, Heavy}
use Rattle.cdm_flight.specs.declared.spacing.Spacing.{Spacing}

-- the group of a letter
abbrev pub group_of : List ℕ → Option Group
group_of text = option_map (λ (named : List ℕ × Group). named.1) (find (λ named. bytes_eq text named.0) ((codes "L", Light) ∷ (codes "M", Medium) ∷ (codes "H", Heavy) ∷ []))

-- for how many minutes a flight of a group occupies the runway
abbrev pub occupancy_of : Spacing → Group → ℕ
occupancy_of spacing Light = spacing.light
occupancy_of spacing Medium = spacing.medium
occupancy_of spacing Heavy = spacing.heavy

abbrev pub no_spacing : Spacing
no_spacing = record { light = 0; medium = 0; heavy = 0 }

-- with the occupancy of one group
abbrev pub with_occupancy : Spacing → Group → ℕ → Spacing
with_occupancy spacing Light minutes = record spacing { light = minutes }
with_occupancy spacing Medium minutes = record spacing { medium = minutes }
with_occupancy spacing Heavy minutes = record spacing { heavy = minutes }
