-- The kinds of updates: the word of each, what it is of, who may send it, and the fields that follow its word.
use Rattle.std.specs.Prelude.{ℕ, List, [], ◌∷◌, Option, bytes_eq, codes}
use Rattle.std.specs.List.{find}
use Rattle.cdm_flight.specs.declared.role.Role.{Role}
use Rattle.cdm_flight.specs.declared.role.Role.TheVariants as role
use Rattle.cdm_flight.specs.declared.update.Update.{Update}
use Rattle.cdm_flight.specs.declared.update.Update.TheVariants as update
use Rattle.cdm_kinds.specs.declared.field.Field.{Field}
use Rattle.cdm_kinds.specs.declared.field.Field.TheVariants as field
use Rattle.cdm_kinds.specs.declared.kind.Kind.{Kind}
use Rattle.cdm_kinds.specs.declared.kind.Kind.TheVariants as kind
use Rattle.cdm_kinds.specs.declared.subject.Subject.{Subject}
use Rattle.cdm_kinds.specs.declared.subject.Subject.TheVariants as subject

-- all kinds, in the order of the table
abbrev pub all_kinds : List Kind
all_kinds =
    kind.Flt ∷ kind.Tobt ∷ kind.Stand ∷ kind.Rwy ∷ kind.Ctot ∷ kind.Ice ∷ kind.Prio ∷ kind.Group ∷ kind.Off ∷ kind.Air ∷ kind.Cnl ∷ kind.Rate ∷ kind.Close ∷ kind.Reopen ∷ kind.Taxi ∷ kind.Clock ∷ kind.Tol ∷ []

-- the word of a kind
abbrev pub kind_name : Kind → List ℕ
kind_name kind.Flt = codes "FLT"
kind_name kind.Tobt = codes "TOBT"
kind_name kind.Stand = codes "STAND"
kind_name kind.Rwy = codes "RWY"
kind_name kind.Ctot = codes "CTOT"
kind_name kind.Ice = codes "ICE"
kind_name kind.Prio = codes "PRIO"
kind_name kind.Group = codes "GROUP"
kind_name kind.Off = codes "OFF"
kind_name kind.Air = codes "AIR"
kind_name kind.Cnl = codes "CNL"
kind_name kind.Rate = codes "RATE"
kind_name kind.Close = codes "CLOSE"
kind_name kind.Reopen = codes "OPEN"
kind_name kind.Taxi = codes "TAXI"
kind_name kind.Clock = codes "CLOCK"
kind_name kind.Tol = codes "TOL"

-- the kind that a field names
unfoldable pub kind_named : List ℕ → Option Kind
kind_named text = find (λ kind. bytes_eq (kind_name kind) text) all_kinds

-- the kind of an update
abbrev pub kind_of : Update → Kind
kind_of (update.Flt f p) = kind.Flt
kind_of (update.Tobt f t) = kind.Tobt
kind_of (update.Stand f s) = kind.Stand
kind_of (update.Rwy f r) = kind.Rwy
kind_of (update.Ctot f c) = kind.Ctot
kind_of (update.Ice f i) = kind.Ice
kind_of (update.Prio f p) = kind.Prio
kind_of (update.Group f w) = kind.Group
kind_of (update.Off f m) = kind.Off
kind_of (update.Air f m) = kind.Air
kind_of (update.Cnl f) = kind.Cnl
kind_of (update.Rate r from to cap) = kind.Rate
kind_of (update.Close r from to) = kind.Close
kind_of (update.Reopen r from to) = kind.Reopen
kind_of (update.Taxi p r m) = kind.Taxi
kind_of (update.Clock m) = kind.Clock
kind_of (update.Tol t) = kind.Tol

-- what a kind is of
abbrev pub subject_of : Kind → Subject
subject_of kind.Flt = subject.Flight
subject_of kind.Tobt = subject.Flight
subject_of kind.Stand = subject.Flight
subject_of kind.Rwy = subject.Flight
subject_of kind.Ctot = subject.Flight
subject_of kind.Ice = subject.Flight
subject_of kind.Prio = subject.Flight
subject_of kind.Group = subject.Flight
subject_of kind.Off = subject.Flight
subject_of kind.Air = subject.Flight
subject_of kind.Cnl = subject.Flight
subject_of kind.Rate = subject.Runway
subject_of kind.Close = subject.Runway
subject_of kind.Reopen = subject.Runway
subject_of kind.Taxi = subject.Taxi
subject_of kind.Clock = subject.Day
subject_of kind.Tol = subject.Day

-- the roles
abbrev pub all_roles : List Role
all_roles = role.AircraftOperator ∷ role.GroundHandler ∷ role.AirportOperator ∷ role.AirTrafficControl ∷ role.NetworkManager ∷ []

-- the roles that may send it
abbrev pub roles_of : Kind → List Role
roles_of kind.Flt = role.AirportOperator ∷ []
roles_of kind.Tobt = role.AircraftOperator ∷ role.GroundHandler ∷ []
roles_of kind.Stand = role.AirportOperator ∷ []
roles_of kind.Rwy = role.AirTrafficControl ∷ []
roles_of kind.Ctot = role.NetworkManager ∷ []
roles_of kind.Ice = role.GroundHandler ∷ []
roles_of kind.Prio = role.AirTrafficControl ∷ []
roles_of kind.Group = role.AirportOperator ∷ []
roles_of kind.Off = role.AirTrafficControl ∷ []
roles_of kind.Air = role.AirTrafficControl ∷ []
roles_of kind.Cnl = role.AircraftOperator ∷ []
roles_of kind.Rate = role.AirTrafficControl ∷ []
roles_of kind.Close = role.AirTrafficControl ∷ []
roles_of kind.Reopen = role.AirTrafficControl ∷ []
roles_of kind.Taxi = role.AirTrafficControl ∷ []
roles_of kind.Clock = role.AirTrafficControl ∷ []
roles_of kind.Tol = role.NetworkManager ∷ []

-- the fields that follow its word
abbrev pub fields_of : Kind → List Field
fields_of kind.Flt = field.Flight ∷ field.Priority ∷ []
fields_of kind.Tobt = field.Flight ∷ field.Time ∷ []
fields_of kind.Stand = field.Flight ∷ field.Stand ∷ []
fields_of kind.Rwy = field.Flight ∷ field.Runway ∷ []
fields_of kind.Ctot = field.Flight ∷ field.Ctot ∷ []
fields_of kind.Ice = field.Flight ∷ field.IceKind ∷ field.IceMinutes ∷ []
fields_of kind.Prio = field.Flight ∷ field.Priority ∷ []
fields_of kind.Group = field.Flight ∷ field.Group ∷ []
fields_of kind.Off = field.Flight ∷ field.Time ∷ []
fields_of kind.Air = field.Flight ∷ field.Time ∷ []
fields_of kind.Cnl = field.Flight ∷ []
fields_of kind.Rate = field.Runway ∷ field.From ∷ field.To ∷ field.Cap ∷ []
fields_of kind.Close = field.Runway ∷ field.From ∷ field.To ∷ []
fields_of kind.Reopen = field.Runway ∷ field.From ∷ field.To ∷ []
fields_of kind.Taxi = field.Place ∷ field.Runway ∷ field.TaxiMinutes ∷ []
fields_of kind.Clock = field.Time ∷ []
fields_of kind.Tol = field.Before ∷ field.After ∷ []
