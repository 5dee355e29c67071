-- How full the runways of a day are, as JSON.
use Rattle.std.specs.Prelude.{◌≡◌, ℕ, ◌*◌, List, [], ◌∷◌, ◌++◌, codes, filter, flat_map, length, map, Option}
use Rattle.json.specs.Json.{Json, string}
use Rattle.cdm_time.specs.Times.{time_text}
use Rattle.cdm_time.specs.declared.calendar.CalendarDate.{CalendarDate}
use Rattle.cdm_flight.specs.Journal.{AirportRows}
use Rattle.cdm_runway.specs.Rules.{RunwayRules}
use Rattle.cdm_sequence.specs.declared.plan.Plan.{Plan}
use Rattle.cdm_sequence.specs.declared.slot.Slot.{Slot}
use Rattle.cdm_plan.specs.Day.{DayRecord}
use Rattle.cdm_plan.specs.DayPlan.{AreByName}
use Rattle.cdm_view.specs.Load.{cap_of_cell, closed_in_cell, flights_in_cell, is_asked, told_cells, usual_cap}
use Rattle.cdm_view.specs.Reasons.{slots_on}
use Rattle.cdm_row.specs.Json.{array_of, count_json, object_of}
use Rattle.cdm_json.specs.Lines.{answer_line}

-- the name of a slot's flight
abbrev pub name_json : Slot → Json
name_json slot = string slot.name

abbrev pub names_members : RunwayRules → List Slot → ℕ → List (List ℕ × Json)
names_members rules slots k = (codes "flights", array_of (map name_json (flights_in_cell rules slots k))) ∷ []

-- a cell: its first minute, how many flights it has and may have, and how many of its minutes are closed
abbrev pub cell_members : CalendarDate → RunwayRules → List Slot → ℕ → List (List ℕ × Json)
cell_members day rules slots k =
    (codes "from", string (time_text day (k * rules.cell))) ∷ (codes "placed", count_json (length (flights_in_cell rules slots k)))
    ∷ (codes "cap", count_json (cap_of_cell rules k)) ∷ (codes "closed", count_json (closed_in_cell rules k)) ∷ []

-- and then its flights
abbrev pub cell_json : CalendarDate → RunwayRules → List Slot → ℕ → Json
cell_json day rules slots k = object_of (cell_members day rules slots k ++ names_members rules slots k)

-- a runway with the length of its cells, and the minute that it is now
abbrev pub runway_members : CalendarDate → RunwayRules → ℕ → List (List ℕ × Json)
runway_members day rules now =
    (codes "runway", string rules.name) ∷ (codes "cell", count_json rules.cell) ∷ (codes "now", string (time_text day now)) ∷ []

-- the cells from the first that tells something to the last
abbrev pub cells_members : CalendarDate → RunwayRules → ℕ → List Slot → List (List ℕ × Json)
cells_members day rules usual slots = (codes "cells", array_of (map (cell_json day rules slots) (told_cells rules usual slots))) ∷ []

unfoldable pub load_members : AirportRows → Plan → RunwayRules → List (List ℕ × Json)
load_members g plan rules =
    runway_members g.day rules plan.clock ++ cells_members g.day rules (usual_cap g rules.name) (slots_on plan rules.name)

-- the line of a runway
abbrev pub load_line : AirportRows → Option ℕ → Plan → RunwayRules → List ℕ
load_line g number plan rules = answer_line number (codes "LOAD") (load_members g plan rules)

-- how full the runways asked are, of the day's by name
abbrev pub AreLoadLines : DayRecord → Option ℕ → Plan → Option (List ℕ) → List ℕ → Type 0
AreLoadLines d number plan asked text =
    (runways : List RunwayRules) × AreByName d runways × (text ≡ flat_map (load_line d.airport number plan) (filter (is_asked asked) runways))
