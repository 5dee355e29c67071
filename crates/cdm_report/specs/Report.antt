-- The text of a report, line by line.
use Rattle.std.specs.Prelude.{ℕ, List, [], ◌∷◌, ◌++◌, ◌==◌, codes, flat_map, zip, if◌then◌else◌}
use Rattle.std.specs.Fmt.{decimal}
use Rattle.std.specs.List.{concat}
use Rattle.cdm_time.specs.declared.calendar.CalendarDate.{CalendarDate}
use Rattle.cdm_time.specs.Times.{date_text, stamp}
use Rattle.cdm_flight.specs.declared.word.RefusalWord.{RefusalWord}
use Rattle.cdm_flight.specs.Words.{text_of}
use Rattle.cdm_sequence.specs.declared.rule.Rule.{Rule}
use Rattle.cdm_sequence.specs.declared.slot.BlockedFlight.{BlockedFlight}
use Rattle.cdm_sequence.specs.declared.plan.Plan.{Plan}
use Rattle.cdm_sequence.specs.declared.plan.RunwayPlan.{RunwayPlan}
use Rattle.cdm_sequence.specs.Words.{all_rules, rule_text}
use Rattle.cdm_report.specs.declared.counts.Counts.{Counts}
use Rattle.cdm_report.specs.Columns.{left_in, flight_line}
use Rattle.cdm_report.specs.Counts.{counts_of}

-- a line's end
abbrev pub line_end : List ℕ
line_end = 10 ∷ []

-- the day, and the minute that it is now
unfoldable pub day_line : CalendarDate → ℕ → List ℕ
day_line day clock = concat (codes "DAY " ∷ date_text day ∷ codes " NOW " ∷ stamp day clock ∷ line_end ∷ [])

-- a runway's heading and its flights
unfoldable pub runway_lines : CalendarDate → RunwayPlan → List ℕ
runway_lines day plan = concat (codes "RUNWAY " ∷ plan.runway ∷ line_end ∷ []) ++ flat_map (λ slot. flight_line day slot ++ line_end) plan.slots

-- a blocked flight and the rule that leaves it no minute
unfoldable pub blocked_line : BlockedFlight → List ℕ
blocked_line flight = concat (codes "BLOCKED " ∷ left_in 7 flight.name ∷ codes " " ∷ rule_text flight.rule ∷ line_end ∷ [])

-- a rule, and what is told of it
abbrev pub rule_told : Rule → List ℕ → List ℕ
rule_told rule told = concat (codes " " ∷ rule_text rule ∷ codes " " ∷ told ∷ [])

-- how many flights a rule blocks, where it blocks one
unfoldable pub rule_count : Rule × ℕ → List ℕ
rule_count (rule, count) = if count == 0 then [] else rule_told rule (decimal count)

-- the indicators without the rules: a title, and what is told of each
unfoldable pub indicators_told : List ℕ → ((Counts → ℕ) → List ℕ) → List ℕ
indicators_told title told = concat (
    title ∷ codes " PLACED " ∷ told (λ c. c.placed)
    ∷ codes " DELAY " ∷ told (λ c. c.delay)
    ∷ codes " MAX " ∷ told (λ c. c.greatest)
    ∷ codes " LATE " ∷ told (λ c. c.late)
    ∷ codes " BLOCKED " ∷ told (λ c. c.blocked) ∷ [])

-- the indicators, with each rule that blocks a flight
unfoldable pub total_line : Counts → List ℕ
total_line counts = indicators_told (codes "TOTAL") (λ of. decimal (of counts)) ++ flat_map rule_count (zip all_rules counts.by_rule) ++ line_end

-- a refused record, by its number, and why it was refused
unfoldable pub refused_line : (ℕ × RefusalWord) → List ℕ
refused_line refusal = concat (codes "REFUSED " ∷ decimal refusal.0 ∷ codes " " ∷ text_of refusal.1 ∷ line_end ∷ [])

-- the report of a day's plan and of the refused records
unfoldable pub report_bytes : CalendarDate → Plan → List (ℕ × RefusalWord) → List ℕ
report_bytes day plan refused =
    day_line day plan.clock
    ++ flat_map (runway_lines day) plan.runways
    ++ flat_map blocked_line plan.blocked
    ++ total_line (counts_of plan)
    ++ flat_map refused_line refused
