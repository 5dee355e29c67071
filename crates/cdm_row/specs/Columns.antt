-- The columns of a Row.
use Rattle.std.specs.Prelude.{ℕ, List, [], ◌∷◌, codes, map, Option}
use Rattle.std.specs.Fmt.{decimal}
use Rattle.std.specs.Option.{option_map_or}
use Rattle.cdm_time.specs.declared.calendar.CalendarDate.{CalendarDate}
use Rattle.cdm_time.specs.Times.{time_text}
use Rattle.cdm_sequence.specs.Words.{rule_text}
use Rattle.cdm_sequence.specs.declared.rule.Rule.{Rule}
use Rattle.cdm_view.specs.Why.{group_letter}
use Rattle.cdm_row.specs.declared.columns.Value as declared
use Rattle.cdm_row.specs.declared.columns.Value.TheVariants as variant
use Rattle.cdm_row.specs.declared.row.Row.{Row}
use Rattle.cdm_row.specs.declared.row.RowStatus.{RowStatus}
use Rattle.cdm_row.specs.declared.row.RowStatus.TheVariants as status

-- what stands in a column
pub data Value : Type 0 where
  nothing : Value
  text : List ℕ → Value
  number : ℕ → Value
  minute : ℕ → Value

-- the value that the code has
abbrev pub value_of : declared.Value → Value
value_of variant.Nothing = nothing
value_of (variant.Text t) = text t.now
value_of (variant.Number n) = number n
value_of (variant.Minute m) = minute m

-- a value, or nothing
abbrev pub if_any : {X : Type 0} → (X → Value) → Option X → Value
if_any value o = option_map_or value o nothing

abbrev pub status_word : RowStatus → List ℕ
status_word status.Planned = codes "PLANNED"
status_word status.Blocked = codes "BLOCKED"
status_word status.OffBlock = codes "OFFBLOCK"
status_word status.Airborne = codes "AIRBORNE"
status_word status.Cancelled = codes "CANCELLED"

abbrev pub rule_value : Rule → Value
rule_value rule = text (rule_text rule)

-- each column: its name, and what a Row has in it
unfoldable pub columns : List (List ℕ × (Row → Value))
columns =
    (codes "flight", λ row. text row.flight)
    ∷ (codes "status", λ row. text (status_word row.status))
    ∷ (codes "runway", λ row. if_any text row.runway)
    ∷ (codes "stand", λ row. if_any text row.stand)
    ∷ (codes "priority", λ row. number row.priority)
    ∷ (codes "group", λ row. text (group_letter row.group))
    ∷ (codes "tobt", λ row. if_any minute row.tobt)
    ∷ (codes "exot", λ row. if_any number row.exot)
    ∷ (codes "ctot", λ row. if_any minute row.ctot)
    ∷ (codes "tsat", λ row. if_any minute row.tsat)
    ∷ (codes "ttot", λ row. if_any minute row.ttot)
    ∷ (codes "delay", λ row. if_any number row.delay)
    ∷ (codes "rule", λ row. if_any rule_value row.rule)
    ∷ []

abbrev pub column_names : List (List ℕ)
column_names = map (λ column. column.0) columns

abbrev pub values : Row → List Value
values row = map (λ column. column.1 row) columns

-- a value as a field of a file, which is empty where there is nothing; times are in full
abbrev pub field : CalendarDate → Value → List ℕ
field day nothing = []
field day (text t) = t
field day (number n) = decimal n
field day (minute m) = time_text day m

-- a Row as fields
abbrev pub row_fields : CalendarDate → Row → List (List ℕ)
row_fields day row = map (field day) (values row)
