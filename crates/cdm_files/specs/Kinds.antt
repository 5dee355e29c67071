-- The updates that the fields of records make, by their kind.
use Rattle.std.specs.Prelude.{ℕ, List, [], ◌∷◌, ok_or, Result, Err}
use Rattle.cdm_time.specs.declared.calendar.CalendarDate.{CalendarDate}
use Rattle.cdm_flight.specs.declared.update.Update.{Update}
use Rattle.cdm_flight.specs.declared.update.Update.TheVariants as update
use Rattle.cdm_flight.specs.declared.word.RefusalWord.{RefusalWord}
use Rattle.cdm_flight.specs.declared.word.RefusalWord.TheVariants as word
use Rattle.cdm_flight.specs.Names.{is_name}
use Rattle.cdm_kinds.specs.Kinds.{kind_named}
use Rattle.cdm_kinds.specs.declared.kind.Kind.{Kind}
use Rattle.cdm_kinds.specs.declared.kind.Kind.TheVariants as kind
use Rattle.cdm_files.specs.Fields.{and_then, bound_field, ctot_field, flight_field, from_to, group_field, ice_field, name_field, number_field, of_four, of_one, of_three, of_two, place_field, runway_field, time_field, tolerance_fields}

-- the update that the fields behind a kind's word make, or the word that refuses them: FIELDS where they are more or fewer
-- than the kind has
abbrev pub update_by : CalendarDate → Kind → List (List ℕ) → Result Update RefusalWord
update_by day kind.Flt (flight ∷ priority ∷ []) = of_two update.Flt (flight_field flight) (number_field (from_to 0 9) priority)
update_by day kind.Tobt (flight ∷ time ∷ []) = of_two update.Tobt (flight_field flight) (time_field day time)
update_by day kind.Stand (flight ∷ stand ∷ []) = of_two update.Stand (flight_field flight) (name_field (is_name 5) stand)
update_by day kind.Rwy (flight ∷ runway ∷ []) = of_two update.Rwy (flight_field flight) (runway_field runway)
update_by day kind.Ctot (flight ∷ time ∷ []) = of_two update.Ctot (flight_field flight) (ctot_field day time)
update_by day kind.Ice (flight ∷ place ∷ minutes ∷ []) = of_two update.Ice (flight_field flight) (ice_field place minutes)
update_by day kind.Prio (flight ∷ priority ∷ []) = of_two update.Prio (flight_field flight) (number_field (from_to 0 9) priority)
update_by day kind.Group (flight ∷ group ∷ []) = of_two update.Group (flight_field flight) (group_field group)
update_by day kind.Off (flight ∷ time ∷ []) = of_two update.Off (flight_field flight) (time_field day time)
update_by day kind.Air (flight ∷ time ∷ []) = of_two update.Air (flight_field flight) (time_field day time)
update_by day kind.Cnl (flight ∷ []) = of_one update.Cnl (flight_field flight)
update_by day kind.Rate (runway ∷ from ∷ to ∷ cap ∷ []) = of_four update.Rate (runway_field runway) (time_field day from) (bound_field day to) (number_field (from_to 0 60) cap)
update_by day kind.Close (runway ∷ from ∷ to ∷ []) = of_three update.Close (runway_field runway) (time_field day from) (bound_field day to)
update_by day kind.Reopen (runway ∷ from ∷ to ∷ []) = of_three update.Reopen (runway_field runway) (time_field day from) (bound_field day to)
update_by day kind.Taxi (stand ∷ runway ∷ minutes ∷ []) = of_three update.Taxi (place_field stand) (runway_field runway) (number_field (from_to 1 120) minutes)
update_by day kind.Clock (time ∷ []) = of_one update.Clock (time_field day time)
update_by day kind.Tol (before ∷ after ∷ []) = of_one update.Tol (tolerance_fields before after)
update_by day kind fields = Err word.Fields

-- the update of the kind that a text names, which these fields follow
unfoldable pub update_of : CalendarDate → List ℕ → List (List ℕ) → Result Update RefusalWord
update_of day text fields = and_then (ok_or (kind_named text) word.Kind) (λ kind. update_by day kind fields)
