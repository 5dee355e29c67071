-- Plans, answers and replies nest little.
use Rattle.std.proofs.Common.{ℕ, ◌*◌, ◌==◌, ◌≤◌, Bool, true, false, cond, List, [], ◌∷◌, ◌++◌, length, map, arith, refl, Option, None, Some}
use Rattle.std.{proofs.Common.codes, specs.Prelude.{flat_map, filter, zip}, specs.Option.IsSomeAnd}
use Rattle.json.specs.Json.{Json, string}
use Rattle.cdm_time.specs.{Times.{date_text, time_text}, declared.calendar.CalendarDate.CalendarDate}
use Rattle.cdm_flight.specs.{Journal.{AirportRows, flight_of}, declared.flight.Flight.Flight, declared.ice.Ice.Ice, Words.text_of}
use Rattle.cdm_flight.specs.declared.word.RefusalWord.{RefusalWord}
use Rattle.cdm_runway.specs.Rules.{RunwayRules}
use Rattle.cdm_sequence.specs.{Words.{all_rules, rule_text}, declared.plan.Plan.Plan, declared.rule.Rule.Rule, declared.slot.Slot.Slot}
use Rattle.cdm_report.specs.{Counts.counts_of, declared.counts.Counts.Counts}
use Rattle.cdm_plan.specs.Day.{DayRecord}
use Rattle.cdm_view.specs.{Load.{cap_of_cell, closed_in_cell, flights_in_cell, is_asked, told_cells, usual_cap}, Reasons.slots_on}
use Rattle.cdm_view.specs.declared.{question.Question.Question, question.Question.TheVariants.{Why, Load}, runs.Run.Run}
use Rattle.cdm_row.specs.{Changed.row_named, Columns.{Value, columns}}
use Rattle.cdm_row.specs.Columns.Value.{minute as a_minute, nothing, number as a_number, text as a_text}
use Rattle.cdm_row.specs.{Json.{array_of, count_json, json_value, object_of, row_json, row_members}, declared.row.Row.Row}
use Rattle.cdm_desk.specs.declared.reply.RowReply.{RowReply, TheVariants.{Accepted, Refused}}
use Rattle.cdm_json.specs.{Answers.IsJsonAnswer, Lines.head_members}
use Rattle.cdm_json.specs.Loads.{AreLoadLines, cell_json, cell_members, load_line, load_members, name_json, names_members}
use Rattle.cdm_json.specs.Plans.{IsPlanLine, count_members, day_members, flight_members, number_of, plan_members, refused_json}
use Rattle.cdm_json.specs.Plans.{refused_members, rule_members, rules_json, scenario_of}
use Rattle.cdm_json.specs.Records.{accepted_members, refused_line, refused_members as word_members, reply_line}
use Rattle.cdm_json.specs.Whys.{IsWhyLine, flights_members, ice_json, ice_kind, ice_minutes, minute_members, reason_cap, reason_flights}
use Rattle.cdm_json.specs.{Whys.{reason_word, wait_json, why_members}, declared.plan.PlanOf.PlanOf}
use Rattle.cdm_lines.{specs.Lines.{AreLines, IsLine, FitsLine}, proofs.Texts.{fits, lines-flat_map, lines_same, one_line}}
use Rattle.cdm_lines.proofs.Values.{AreSmall, Small, small-append, small-flat_map, small_array, small_decimal, small_more, small_null}
use Rattle.cdm_lines.proofs.Values.{small_object, small_or_null, small_string}

-- Rows.

pub small_value : (n : ℕ) (day : CalendarDate) (v : Value) → Small n (json_value day v)
small_value n day nothing = small_null n
small_value n day (a_text t) = small_string n t
small_value n day (a_number c) = small_decimal n c
small_value n day (a_minute m) = small_string n (time_text day m)

pub small_columns : (n : ℕ) (day : CalendarDate) (row : Row) (cs : List (List ℕ × (Row → Value))) → AreSmall n (map (λ c. (c.0, json_value day (c.1 row))) cs)
small_columns n day row [] = tt
small_columns n day row (c ∷ cs) = (small_value n day (c.1 row), small_columns n day row cs)

pub small_row : (day : CalendarDate) (row : Row) → Small 1 (row_json day row)
small_row day row = small_object 0 (row_members day row) (small_columns 0 day row columns)

-- An object of columns.

pub small_members : (n : ℕ) (day : CalendarDate) (members : List (List ℕ × Value)) → AreSmall n (map (λ m. (m.0, json_value day m.1)) members)
small_members n day [] = tt
small_members n day (m ∷ members) = (small_value n day m.1, small_members n day members)

pub values_fit : (day : CalendarDate) (members : List (List ℕ × Value)) → FitsLine (object_of (map (λ m. (m.0, json_value day m.1)) members))
values_fit day members =
    let all = map (λ (m : List ℕ × Value). (m.0, json_value day m.1)) members in
    fits (object_of all) (small_object 3 all (small_members 3 day members))

-- The head of a reply.
pub small_head : (n : ℕ) (number : Option ℕ) (word : List ℕ) → AreSmall n (head_members number word)
small_head n None word = tt
small_head n (Some number) word = (small_decimal n number, (small_string n word, tt))

-- A plan.

small_rule : (n : ℕ) (p : Rule × ℕ) → AreSmall n (rule_members p)
small_rule n (rule, count) = by (count == 0)
  where
    by : (b : Bool) → AreSmall n (cond b [] ((rule_text rule, count_json count) ∷ []))
    by true = tt
    by false = (small_decimal n count, tt)

small_rules : (counts : Counts) → Small 1 (rules_json counts)
small_rules counts = small_object 0 (flat_map rule_members (zip all_rules counts.by_rule)) (small-flat_map 0 rule_members (small_rule 0) (zip all_rules counts.by_rule))

small_refused : (refusal : ℕ × RefusalWord) → Small 1 (refused_json refusal)
small_refused refusal =
    small_object 0 ((codes "record", count_json refusal.0) ∷ (codes "word", string (text_of refusal.1)) ∷ []) (small_decimal 0 refusal.0, (small_string 0 (text_of refusal.1), tt))

pub small_counts : (n : ℕ) (counts : Counts) → AreSmall n (count_members counts)
small_counts n counts = (
  small_decimal n counts.placed,
  (small_decimal n counts.delay, (small_decimal n counts.greatest, (small_decimal n counts.late, (small_decimal n counts.blocked, tt)))),
)

small_plan : (day : CalendarDate) (scenario : Value) (plan : Plan) (rows : List Row) (refused : List (ℕ × RefusalWord)) → AreSmall 2 (plan_members day scenario plan rows refused)
unfolding plan_members
small_plan day scenario plan rows refused =
    let counts = counts_of plan in
    let flights = flight_members day counts rows in
    let last = refused_members refused in
    let small_days : AreSmall 2 (day_members day scenario plan.clock) = (small_value 2 day scenario, (small_string 2 (date_text day), (small_string 2 (time_text day plan.clock), tt))) in
    let small_flights : AreSmall 2 flights = (small_more 1 2 (rules_json counts) (omega arith) (small_rules counts), (small_array 1 (row_json day) (small_row day) rows, tt)) in
    let small_last : AreSmall 2 last = (small_array 1 refused_json small_refused refused, tt) in
    small-append 2 (day_members day scenario plan.clock) (count_members counts ++ (flights ++ last)) small_days
    (small-append 2 (count_members counts) (flights ++ last) (small_counts 2 counts) (small-append 2 flights last small_flights small_last))

-- an answer whose own members are so small fits a line
pub answer_fits : (number : Option ℕ) (word : List ℕ) (members : List (List ℕ × Json)) → AreSmall 3 members → FitsLine (object_of (head_members number word ++ members))
answer_fits number word members each =
    let all = head_members number word ++ members in
    fits (object_of all) (small_object 3 all (small-append 3 (head_members number word) members (small_head 3 number word) each))

members_more : (n m : ℕ) (members : List (List ℕ × Json)) → n ≤ m → AreSmall n members → AreSmall m members
members_more n m [] order each = tt
members_more n m (x ∷ members) order each = (small_more n m x.1 order each.0, members_more n m members order each.1)

pub plan_fits : (day : CalendarDate) (of : PlanOf) (plan : Plan) (rows : List Row) (refused : List (ℕ × RefusalWord))
    → FitsLine (object_of (head_members (number_of of) (codes "PLAN") ++ plan_members day (scenario_of of) plan rows refused))
plan_fits day of plan rows refused =
    answer_fits (number_of of) (codes "PLAN") (plan_members day (scenario_of of) plan rows refused)
    (members_more 2 3 (plan_members day (scenario_of of) plan rows refused) (omega arith) (small_plan day (scenario_of of) plan rows refused))

-- What holds a flight.

small_ice : (ice : Ice) → Small 1 (ice_json ice)
small_ice ice =
    small_object 0 ((codes "kind", string (ice_kind ice)) ∷ (codes "minutes", count_json (ice_minutes ice)) ∷ []) (small_string 0 (ice_kind ice), (small_decimal 0 (ice_minutes ice), tt))

small_wait : (day : CalendarDate) (run : Run) → Small 2 (wait_json day run)
small_wait day run =
    let minutes = minute_members day run in
    let flights = flights_members (reason_flights run.reason) in
    let small_minutes : AreSmall 1 minutes = (
      small_string 1 (time_text day run.first),
      (small_string 1 (time_text day run.last), (small_string 1 (reason_word run.reason), (small_value 1 day (reason_cap run.reason), tt))),
    ) in
    let small_flights : AreSmall 1 flights = (small_array 0 string (small_string 0) (reason_flights run.reason), tt) in
    small_object 1 (minutes ++ flights) (small-append 1 minutes flights small_minutes small_flights)

small_why : (day : CalendarDate) (plan : Plan) (f : Flight) (row : Option Row) (runs : List Run) → AreSmall 3 (why_members day plan f row runs)
unfolding why_members
small_why day plan f row runs = (
  small_or_null 3 (row_json day) (λ r. small_more 1 3 (row_json day r) (omega arith) (small_row day r)) row,
  (
    small_more 1 3 (ice_json f.ice) (omega arith) (small_ice f.ice),
    (small_string 3 (time_text day plan.clock), (small_array 2 (wait_json day) (small_wait day) runs, tt)),
  ),
)

pub why_fits : (day : CalendarDate) (number : Option ℕ) (plan : Plan) (f : Flight) (row : Option Row) (runs : List Run)
    → FitsLine (object_of (head_members number (codes "WHY") ++ why_members day plan f row runs))
why_fits day number plan f row runs = answer_fits number (codes "WHY") (why_members day plan f row runs) (small_why day plan f row runs)

-- How full a runway is.

small_cell : (day : CalendarDate) (rules : RunwayRules) (slots : List Slot) (k : ℕ) → Small 2 (cell_json day rules slots k)
small_cell day rules slots k =
    let numbers = cell_members day rules slots k in
    let names = names_members rules slots k in
    let small_numbers : AreSmall 1 numbers = (
      small_string 1 (time_text day (k * rules.cell)),
      (
        small_decimal 1 (length (flights_in_cell rules slots k)),
        (small_decimal 1 (cap_of_cell rules k), (small_decimal 1 (closed_in_cell rules k), tt)),
      ),
    ) in
    let small_names : AreSmall 1 names = (small_array 0 name_json (λ s. small_string 0 s.name) (flights_in_cell rules slots k), tt) in
    small_object 1 (numbers ++ names) (small-append 1 numbers names small_numbers small_names)

small_load : (g : AirportRows) (plan : Plan) (rules : RunwayRules) → AreSmall 3 (load_members g plan rules)
unfolding load_members
small_load g plan rules = (
  small_string 3 rules.name,
  (
    small_decimal 3 rules.cell,
    (
      small_string 3 (time_text g.day plan.clock),
      (
        small_array 2 (cell_json g.day rules (slots_on plan rules.name)) (small_cell g.day rules (slots_on plan rules.name))
            (told_cells rules (usual_cap g rules.name) (slots_on plan rules.name)),
        tt,
      ),
    ),
  ),
)

pub load_fits : (g : AirportRows) (number : Option ℕ) (plan : Plan) (rules : RunwayRules) → FitsLine (object_of (head_members number (codes "LOAD") ++ load_members g plan rules))
load_fits g number plan rules = answer_fits number (codes "LOAD") (load_members g plan rules) (small_load g plan rules)

-- Replies to records.

pub accepted_fits : (day : CalendarDate) (number count : ℕ) (rows : List Row)
    → FitsLine (object_of (head_members (Some number) (codes "ACCEPTED") ++ accepted_members day count rows))
accepted_fits day number count rows =
    answer_fits (Some number) (codes "ACCEPTED") (accepted_members day count rows)
    (small_decimal 3 count, (small_more 2 3 (array_of (map (row_json day) rows)) (omega arith) (small_array 1 (row_json day) (small_row day) rows), tt))

pub refused_fits : (number : ℕ) (word : RefusalWord) → FitsLine (object_of (head_members (Some number) (codes "REFUSED") ++ word_members word))
refused_fits number word = answer_fits (Some number) (codes "REFUSED") (word_members word) (small_string 3 (text_of word), tt)

-- The texts.

pub is_plan_line : (d : DayRecord) (of : PlanOf) (plan : Plan) (refused : List (ℕ × RefusalWord)) (text : List ℕ) → IsPlanLine d of plan refused text → IsLine text
is_plan_line d of plan refused text is = (_, plan_fits d.airport.day of plan is.rows refused, is.bytes)

pub is_reply_line : (day : CalendarDate) (number count : ℕ) (reply : RowReply) → IsLine (reply_line day number count reply)
is_reply_line day number count (Accepted rows) = (_, accepted_fits day number count rows, refl)
is_reply_line day number count (Refused word) = (_, refused_fits number word, refl)

pub is_refused_line : (number : ℕ) (word : RefusalWord) → IsLine (refused_line number word)
is_refused_line number word = (_, refused_fits number word, refl)

pub is_load_line : (g : AirportRows) (number : Option ℕ) (plan : Plan) (rules : RunwayRules) → IsLine (load_line g number plan rules)
is_load_line g number plan rules = (_, load_fits g number plan rules, refl)

pub is_why : (d : DayRecord) (number : Option ℕ) (plan : Plan) (known : Option Flight) (text : List ℕ) → IsSomeAnd known (λ f. IsWhyLine d number plan f text) → IsLine text
is_why d number plan None text is = absurd is
is_why d number plan (Some f) text is = (_, why_fits d.airport.day number plan f (row_named is.rows f.name) is.runs, is.bytes)

pub are_loads : (d : DayRecord) (number : Option ℕ) (plan : Plan) (asked : Option (List ℕ)) (text : List ℕ) → AreLoadLines d number plan asked text → AreLines text
are_loads d number plan asked text (runways, these, is) =
    lines_same text _ is (lines-flat_map (load_line d.airport number plan) (λ rules. one_line _ (is_load_line d.airport number plan rules)) (filter (is_asked asked) runways))

pub are_answers : (question : Question) (d : DayRecord) (number : Option ℕ) (plan : Plan) (text : List ℕ) → IsJsonAnswer question d number plan text → AreLines text
are_answers (Why name) d number plan text is = one_line text (is_why d number plan (flight_of d.airport d.journal name) text is)
are_answers (Load runway) d number plan text is = are_loads d number plan runway text is.1
