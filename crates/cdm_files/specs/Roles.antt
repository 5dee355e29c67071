-- The words of roles.
use Rattle.std.specs.Prelude.{ℕ, List, [], ◌∷◌, codes, bytes_eq, find, Option, option_map}
use Rattle.cdm_flight.specs.declared.role.Role.{Role}
use Rattle.cdm_flight.specs.declared.role.Role.TheVariants.{AircraftOperator, GroundHandler, AirportOperator, AirTrafficControl, NetworkManager}

-- the word of each role, and the role
abbrev pub named_roles : List (List ℕ × Role)
named_roles =
    (codes "AO", AircraftOperator) ∷ (codes "GH", GroundHandler) ∷ (codes "AP", AirportOperator) ∷ (codes "ATC", AirTrafficControl) ∷ (codes "NM", NetworkManager) ∷ []

-- the role that a field names
unfoldable pub role_of : List ℕ → Option Role
role_of text = option_map (λ named. named.1) (find (λ named. bytes_eq text named.0) named_roles)
