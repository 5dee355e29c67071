-- What stands around the flights in the line of a plan.
use Rattle.std.specs.Prelude.{ℕ, List, [], ◌∷◌, ◌++◌, codes, flat_map}
use Rattle.json.specs.Json.{Json}
use Rattle.json.specs.Print.{print}
use Rattle.json.specs.Token.{begin_object, end_object, key}
use Rattle.cdm_time.specs.declared.calendar.CalendarDate.{CalendarDate}
use Rattle.cdm_flight.specs.declared.word.RefusalWord.{RefusalWord}
use Rattle.cdm_report.specs.Counts.{counts_of}
use Rattle.cdm_sequence.specs.declared.plan.Plan.{Plan}
use Rattle.cdm_row.specs.Columns.{Value}
use Rattle.cdm_row.specs.Json.{member_tokens}
use Rattle.cdm_json.specs.Lines.{head_members}
use Rattle.cdm_json.specs.Plans.{count_members, day_members, number_of, refused_members, rules_json, scenario_of}
use Rattle.cdm_json.specs.declared.plan.PlanOf.{PlanOf}

-- what is told of a plan before its flights
abbrev pub first_members : CalendarDate → Value → Plan → List (List ℕ × Json)
first_members day scenario plan =
    day_members day scenario plan.clock ++ (count_members (counts_of plan) ++ (codes "rules", rules_json (counts_of plan)) ∷ [])

-- the line up to the flights
abbrev pub text_before : CalendarDate → PlanOf → Plan → List ℕ
text_before day of plan =
    print (begin_object ∷ (flat_map member_tokens (head_members (number_of of) (codes "PLAN") ++ first_members day (scenario_of of) plan) ++ key (codes "flights") ∷ []))

-- the line from behind the flights on
abbrev pub text_behind : List (ℕ × RefusalWord) → List ℕ
text_behind refused = 44 ∷ (print (flat_map member_tokens (refused_members refused) ++ end_object ∷ []) ++ 10 ∷ [])
