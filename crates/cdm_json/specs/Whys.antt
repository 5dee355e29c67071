-- What holds a flight, as JSON.
use Rattle.std.specs.Prelude.{◌≡◌, ℕ, List, [], ◌∷◌, ◌++◌, codes, map, Option}
use Rattle.json.specs.Json.{Json, string}
use Rattle.cdm_time.specs.Times.{time_text}
use Rattle.cdm_time.specs.declared.calendar.CalendarDate.{CalendarDate}
use Rattle.cdm_flight.specs.declared.flight.Flight.{Flight}
use Rattle.cdm_flight.specs.declared.ice.Ice.{Ice}
use Rattle.cdm_flight.specs.declared.ice.Ice.TheVariants.{NoIce, AtStand, Remote}
use Rattle.cdm_sequence.specs.declared.plan.Plan.{Plan}
use Rattle.cdm_plan.specs.Day.{DayRecord}
use Rattle.cdm_view.specs.Why.{AreWaits}
use Rattle.cdm_view.specs.declared.reason.Reason.{Reason}
use Rattle.cdm_view.specs.declared.reason.Reason.TheVariants as reason
use Rattle.cdm_view.specs.declared.runs.Run.{Run}
use Rattle.cdm_row.specs.Changed.{row_named}
use Rattle.cdm_row.specs.Columns.{Value}
use Rattle.cdm_row.specs.Columns.Value.{nothing, number as a_number}
use Rattle.cdm_row.specs.Json.{array_of, count_json, json_value, object_of, or_null, row_json}
use Rattle.cdm_row.specs.Rows.{AreRows}
use Rattle.cdm_row.specs.declared.row.Row.{Row}
use Rattle.cdm_json.specs.Lines.{answer_line}

-- where a flight is de-iced
abbrev pub ice_kind : Ice → List ℕ
ice_kind NoIce = codes "NONE"
ice_kind (AtStand minutes) = codes "STAND"
ice_kind (Remote minutes) = codes "REMOTE"

-- and for how many minutes
abbrev pub ice_minutes : Ice → ℕ
ice_minutes NoIce = 0
ice_minutes (AtStand minutes) = minutes
ice_minutes (Remote minutes) = minutes

abbrev pub ice_json : Ice → Json
ice_json ice = object_of ((codes "kind", string (ice_kind ice)) ∷ (codes "minutes", count_json (ice_minutes ice)) ∷ [])

-- the word of a reason
abbrev pub reason_word : Reason → List ℕ
reason_word reason.Ice = codes "ICE"
reason_word reason.Now = codes "NOW"
reason_word reason.Ctot = codes "CTOT"
reason_word reason.Closure = codes "CLOSURE"
reason_word (reason.Spacing names) = codes "SPACING"
reason_word (reason.Rate cap names) = codes "RATE"

-- how many flights the cell takes, where it has taken them
abbrev pub reason_cap : Reason → Value
reason_cap (reason.Rate cap names) = a_number cap
reason_cap other = nothing

-- the flights in the way
abbrev pub reason_flights : Reason → List (List ℕ)
reason_flights (reason.Spacing names) = names
reason_flights (reason.Rate cap names) = names
reason_flights other = []

abbrev pub flights_members : List (List ℕ) → List (List ℕ × Json)
flights_members names = (codes "flights", array_of (map string names)) ∷ []

-- minutes one after another at which the flight can't take off, from the first to the last, and why
abbrev pub minute_members : CalendarDate → Run → List (List ℕ × Json)
minute_members day run =
    (codes "from", string (time_text day run.first)) ∷ (codes "to", string (time_text day run.last))
    ∷ (codes "reason", string (reason_word run.reason)) ∷ (codes "cap", json_value day (reason_cap run.reason)) ∷ []

abbrev pub wait_json : CalendarDate → Run → Json
wait_json day run = object_of (minute_members day run ++ flights_members (reason_flights run.reason))

-- the Row of the flight, and its de-icing
abbrev pub known_members : CalendarDate → Flight → Option Row → List (List ℕ × Json)
known_members day f row = (codes "row", or_null (row_json day) row) ∷ (codes "ice", ice_json f.ice) ∷ []

abbrev pub waits_members : CalendarDate → List Run → List (List ℕ × Json)
waits_members day runs = (codes "waits", array_of (map (wait_json day) runs)) ∷ []

-- what is told of a flight, with the minute that it is now
unfoldable pub why_members : CalendarDate → Plan → Flight → Option Row → List Run → List (List ℕ × Json)
why_members day plan f row runs =
    known_members day f row ++ ((codes "now", string (time_text day plan.clock)) ∷ waits_members day runs)

-- the line that says what holds a flight
pub record IsWhyLine (d : DayRecord) (number : Option ℕ) (plan : Plan) (f : Flight) (text : List ℕ) : Type 0 where
  pub rows : List Row
  pub are_rows : AreRows d plan rows
  pub runs : List Run
  pub waits : AreWaits d plan f runs
  pub bytes : text ≡ answer_line number (codes "WHY") (why_members d.airport.day plan f (row_named rows f.name) runs)
