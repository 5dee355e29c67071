-- The plan of a day as JSON.
use Rattle.std.specs.Prelude.{◌≡◌, ℕ, ◌==◌, List, [], ◌∷◌, ◌++◌, codes, flat_map, map, zip, Option, None, Some, if◌then◌else◌}
use Rattle.json.specs.Json.{Json, string}
use Rattle.json.specs.Print.{print}
use Rattle.json.specs.Tree.{json_tokens}
use Rattle.cdm_time.specs.Times.{date_text, time_text}
use Rattle.cdm_time.specs.declared.calendar.CalendarDate.{CalendarDate}
use Rattle.cdm_flight.specs.Words.{text_of}
use Rattle.cdm_flight.specs.declared.word.RefusalWord.{RefusalWord}
use Rattle.cdm_sequence.specs.Words.{all_rules, rule_text}
use Rattle.cdm_sequence.specs.declared.plan.Plan.{Plan}
use Rattle.cdm_sequence.specs.declared.rule.Rule.{Rule}
use Rattle.cdm_report.specs.Counts.{counts_of}
use Rattle.cdm_report.specs.declared.counts.Counts.{Counts}
use Rattle.cdm_plan.specs.Day.{DayRecord}
use Rattle.cdm_row.specs.Columns.{Value}
use Rattle.cdm_row.specs.Columns.Value.{nothing, text}
use Rattle.cdm_row.specs.Json.{array_of, count_json, json_value, object_of, row_json}
use Rattle.cdm_row.specs.Rows.{AreRows}
use Rattle.cdm_row.specs.declared.row.Row.{Row}
use Rattle.cdm_json.specs.Lines.{answer_line}
use Rattle.cdm_json.specs.declared.plan.PlanOf.{PlanOf}
use Rattle.cdm_json.specs.declared.plan.PlanOf.TheVariants as of

-- the indicators without the rules
abbrev pub count_members : Counts → List (List ℕ × Json)
count_members counts =
    (codes "placed", count_json counts.placed) ∷ (codes "delay", count_json counts.delay) ∷ (codes "max", count_json counts.greatest)
    ∷ (codes "late", count_json counts.late) ∷ (codes "blocked", count_json counts.blocked) ∷ []

-- a rule that blocks flights, with how many
abbrev pub rule_members : Rule × ℕ → List (List ℕ × Json)
rule_members (rule, count) = if count == 0 then [] else (rule_text rule, count_json count) ∷ []

-- each rule that blocks flights, in the order of the rules
abbrev pub rules_json : Counts → Json
rules_json counts = object_of (flat_map rule_members (zip all_rules counts.by_rule))

-- a refused record, by its number, and why it was refused
abbrev pub refused_json : ℕ × RefusalWord → Json
refused_json refusal = object_of ((codes "record", count_json refusal.0) ∷ (codes "word", string (text_of refusal.1)) ∷ [])

-- whose plan it is, the day, and the minute that it is now
abbrev pub day_members : CalendarDate → Value → ℕ → List (List ℕ × Json)
day_members day scenario now = (codes "scenario", json_value day scenario) ∷ (codes "day", string (date_text day)) ∷ (codes "now", string (time_text day now)) ∷ []

-- the rules that block flights, and the Rows of all flights
abbrev pub flight_members : CalendarDate → Counts → List Row → List (List ℕ × Json)
flight_members day counts rows = (codes "rules", rules_json counts) ∷ (codes "flights", array_of (map (row_json day) rows)) ∷ []

abbrev pub refused_members : List (ℕ × RefusalWord) → List (List ℕ × Json)
refused_members refused = (codes "refused", array_of (map refused_json refused)) ∷ []

-- what is told of a plan
unfoldable pub plan_members : CalendarDate → Value → Plan → List Row → List (ℕ × RefusalWord) → List (List ℕ × Json)
plan_members day scenario plan rows refused =
    day_members day scenario plan.clock ++ (count_members (counts_of plan) ++ (flight_members day (counts_of plan) rows ++ refused_members refused))

-- the number of the record that asked for the plan, if one did
abbrev pub number_of : PlanOf → Option ℕ
number_of of.Day = None
number_of (of.Asked number) = Some number
number_of (of.Scenario name) = None

-- the name of the scenario whose plan it is, or nothing for the day itself
abbrev pub scenario_of : PlanOf → Value
scenario_of of.Day = nothing
scenario_of (of.Asked number) = nothing
scenario_of (of.Scenario name) = text name

-- the text of the flights' Rows
abbrev pub flights_text : CalendarDate → List Row → List ℕ
flights_text day rows = print (json_tokens (array_of (map (row_json day) rows)))

-- the line of a plan with these Rows
abbrev pub plan_line : CalendarDate → PlanOf → Plan → List Row → List (ℕ × RefusalWord) → List ℕ
plan_line day of plan rows refused = answer_line (number_of of) (codes "PLAN") (plan_members day (scenario_of of) plan rows refused)

-- the line of a day's plan
pub record IsPlanLine (d : DayRecord) (of : PlanOf) (plan : Plan) (refused : List (ℕ × RefusalWord)) (line : List ℕ) : Type 0 where
  pub rows : List Row
  pub are_rows : AreRows d plan rows
  pub bytes : line ≡ plan_line d.airport.day of plan rows refused
