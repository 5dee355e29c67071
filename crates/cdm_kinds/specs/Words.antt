-- The words of the table of kinds.
use Rattle.std.specs.Prelude.{ℕ, List, [], codes}
use Rattle.cdm_flight.specs.declared.role.Role.{Role}
use Rattle.cdm_flight.specs.declared.role.Role.TheVariants as role
use Rattle.cdm_kinds.specs.declared.field.Field.{Field}
use Rattle.cdm_kinds.specs.declared.field.Field.TheVariants as field
use Rattle.cdm_kinds.specs.declared.subject.Subject.{Subject}
use Rattle.cdm_kinds.specs.declared.subject.Subject.TheVariants as subject

-- the word of a role
abbrev pub role_name : Role → List ℕ
role_name role.AircraftOperator = codes "AO"
role_name role.GroundHandler = codes "GH"
role_name role.AirportOperator = codes "AP"
role_name role.AirTrafficControl = codes "ATC"
role_name role.NetworkManager = codes "NM"

-- what a kind is of
abbrev pub subject_name : Subject → List ℕ
subject_name subject.Flight = codes "flight"
subject_name subject.Runway = codes "runway"
subject_name subject.Taxi = codes "taxi"
subject_name subject.Day = codes "day"

-- the name of a field
abbrev pub field_name : Field → List ℕ
field_name field.Flight = codes "flight"
field_name field.Priority = codes "priority"
field_name field.Time = codes "time"
field_name field.Ctot = codes "time"
field_name field.Stand = codes "stand"
field_name field.Runway = codes "runway"
field_name field.IceKind = codes "kind"
field_name field.IceMinutes = codes "minutes"
field_name field.Group = codes "group"
field_name field.From = codes "from"
field_name field.To = codes "to"
field_name field.Cap = codes "cap"
field_name field.Place = codes "stand"
field_name field.TaxiMinutes = codes "minutes"
field_name field.Before = codes "before"
field_name field.After = codes "after"

-- its form
abbrev pub field_form : Field → List ℕ
field_form field.Flight = codes "1 to 7 of A-Z and 0-9"
field_form field.Priority = codes "1 to 4 digits"
field_form field.Time = codes "YYYY-MM-DDTHH:MMZ"
field_form field.Ctot = codes "YYYY-MM-DDTHH:MMZ, or - for none"
field_form field.Stand = codes "1 to 5 of A-Z and 0-9"
field_form field.Runway = codes "1 to 3 of A-Z and 0-9"
field_form field.IceKind = codes "NONE, STAND or REMOTE"
field_form field.IceMinutes = codes "1 to 4 digits"
field_form field.Group = codes "L, M or H"
field_form field.From = codes "YYYY-MM-DDTHH:MMZ"
field_form field.To = codes "YYYY-MM-DDTHH:MMZ"
field_form field.Cap = codes "1 to 4 digits"
field_form field.Place = codes "1 to 5 of A-Z and 0-9, or * for all others"
field_form field.TaxiMinutes = codes "1 to 4 digits"
field_form field.Before = codes "1 to 4 digits"
field_form field.After = codes "1 to 4 digits"

-- its range, where it has one beside its form
abbrev pub field_range : Field → List ℕ
field_range field.Flight = []
field_range field.Priority = codes "0 to 9"
field_range field.Time = codes "a minute of the two days"
field_range field.Ctot = codes "a minute of the two days"
field_range field.Stand = []
field_range field.Runway = []
field_range field.IceKind = []
field_range field.IceMinutes = codes "0 with NONE, else 1 to 60"
field_range field.Group = []
field_range field.From = codes "a minute of the two days"
field_range field.To = codes "a minute of the two days, or their end"
field_range field.Cap = codes "0 to 60"
field_range field.Place = []
field_range field.TaxiMinutes = codes "1 to 120"
field_range field.Before = codes "0 to 15"
field_range field.After = codes "0 to 30"
