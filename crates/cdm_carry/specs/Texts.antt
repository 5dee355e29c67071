-- What is carried, as a feed.
use Rattle.std.specs.Prelude.{ℕ, List, [], ◌∷◌, ◌++◌, codes, flat_map, Option, None, Some}
use Rattle.std.specs.Fmt.{decimal}
use Rattle.std.specs.List.{concat}
use Rattle.cdm_time.specs.Times.{time_text}
use Rattle.cdm_time.specs.declared.calendar.CalendarDate.{CalendarDate}
use Rattle.cdm_flight.specs.declared.group.Group.{Group}
use Rattle.cdm_flight.specs.declared.group.Group.TheVariants.{Light, Medium, Heavy}
use Rattle.cdm_flight.specs.declared.ice.Ice.{Ice}
use Rattle.cdm_flight.specs.declared.ice.Ice.TheVariants.{NoIce, AtStand, Remote}
use Rattle.cdm_flight.specs.declared.place.Place.{Place}
use Rattle.cdm_flight.specs.declared.place.Place.TheVariants as place
use Rattle.cdm_flight.specs.declared.role.Role.{Role}
use Rattle.cdm_flight.specs.declared.update.Update.{Update}
use Rattle.cdm_flight.specs.declared.update.Update.TheVariants as update
use Rattle.cdm_kinds.specs.Kinds.{kind_name, kind_of}
use Rattle.cdm_kinds.specs.Words.{role_name}
use Rattle.cdm_report.specs.Report.{line_end}

-- Fields.

-- a CTOT, or `-` for none any more
abbrev pub ctot_text : CalendarDate → Option ℕ → List ℕ
ctot_text day None = codes "-"
ctot_text day (Some m) = time_text day m

-- a de-icing: its place and its minutes
abbrev pub ice_text : Ice → List ℕ
ice_text NoIce = codes "NONE,0"
ice_text (AtStand minutes) = concat (codes "STAND," ∷ decimal minutes ∷ [])
ice_text (Remote minutes) = concat (codes "REMOTE," ∷ decimal minutes ∷ [])

abbrev pub group_text : Group → List ℕ
group_text Light = codes "L"
group_text Medium = codes "M"
group_text Heavy = codes "H"

-- a stand, or `*` for the runway's default
abbrev pub place_text : Place → List ℕ
place_text place.Default = codes "*"
place_text (place.Stand stand) = stand

-- a field behind a name
abbrev pub named : List ℕ → List ℕ → List ℕ
named name field = concat (name ∷ codes "," ∷ field ∷ [])

-- a window of a runway that ends before the horizon does
abbrev pub window_text : CalendarDate → List ℕ → ℕ → ℕ → List ℕ
window_text day r from to = concat (r ∷ codes "," ∷ time_text day from ∷ codes "," ∷ time_text day to ∷ [])

-- the fields of an update, behind its kind
unfoldable pub fields_text : CalendarDate → Update → List ℕ
fields_text day (update.Flt f p) = named f (decimal p)
fields_text day (update.Tobt f m) = named f (time_text day m)
fields_text day (update.Stand f s) = named f s
fields_text day (update.Rwy f r) = named f r
fields_text day (update.Ctot f c) = named f (ctot_text day c)
fields_text day (update.Ice f i) = named f (ice_text i)
fields_text day (update.Prio f p) = named f (decimal p)
fields_text day (update.Group f w) = named f (group_text w)
fields_text day (update.Off f m) = named f (time_text day m)
fields_text day (update.Air f m) = named f (time_text day m)
fields_text day (update.Cnl f) = f
fields_text day (update.Rate r from to cap) = concat (window_text day r from to ∷ codes "," ∷ decimal cap ∷ [])
fields_text day (update.Close r from to) = window_text day r from to
fields_text day (update.Reopen r from to) = window_text day r from to
fields_text day (update.Taxi p r m) = concat (place_text p ∷ codes "," ∷ r ∷ codes "," ∷ decimal m ∷ [])
fields_text day (update.Clock m) = time_text day m
fields_text day (update.Tol t) = concat (decimal t.before ∷ codes "," ∷ decimal t.after ∷ [])

-- Records.

-- a record: the role, the kind, and the fields
unfoldable pub record_text : CalendarDate → Role × Update → List ℕ
record_text day p = concat (role_name p.0 ∷ codes "," ∷ kind_name (kind_of p.1) ∷ codes "," ∷ fields_text day p.1 ∷ [])

-- its line
abbrev pub record_line : CalendarDate → Role × Update → List ℕ
record_line day p = record_text day p ++ line_end

-- records as a feed, one a line
unfoldable pub feed_text : CalendarDate → List (Role × Update) → List ℕ
feed_text day records = flat_map (record_line day) records

-- where the window of an update ends, if it has one
abbrev pub window_end : Update → ℕ
window_end (update.Rate r from to cap) = to
window_end (update.Close r from to) = to
window_end (update.Reopen r from to) = to
window_end _ = 0
