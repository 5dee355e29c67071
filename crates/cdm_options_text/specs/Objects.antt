-- What could help a flight, as lines of JSON: the flight and its day, and then each record that helps.
use Rattle.std.specs.Prelude.{ℕ, ◌-◌, List, [], ◌∷◌, ◌++◌, codes, flat_map, length, map, Option, None, Some}
use Rattle.json.specs.Json.{Json}
use Rattle.cdm_time.specs.declared.calendar.CalendarDate.{CalendarDate}
use Rattle.cdm_sequence.specs.declared.rule.Rule.{Rule}
use Rattle.cdm_sequence.specs.Words.{rule_text}
use Rattle.cdm_row.specs.Columns.{Value}
use Rattle.cdm_row.specs.Columns.Value.{nothing, text, number, minute}
use Rattle.cdm_row.specs.Json.{array_of, json_value, object_of}
use Rattle.cdm_json.specs.Lines.{answer_line, json_line}
use Rattle.cdm_kinds.specs.Words.{role_name}
use Rattle.cdm_options.specs.Tried.{sender_of}
use Rattle.cdm_options.specs.declared.helping.Helping.{Helping}
use Rattle.cdm_options.specs.declared.options.Options.{Options}
use Rattle.cdm_options_text.specs.Lines.{sent}

-- Values.

abbrev pub minute_value : Option ℕ → Value
minute_value (Some m) = minute m
minute_value None = nothing

abbrev pub rule_value : Option Rule → Value
rule_value (Some rule) = text (rule_text rule)
rule_value None = nothing

-- by how many minutes a take-off is sooner; nothing where there was none
abbrev pub gain_value : Option ℕ → ℕ → Value
gain_value (Some m) ttot = number (m - ttot)
gain_value None ttot = nothing

-- Members.

-- the flight, where it stands, the indicators of its day, and how many records were tried, help and were refused
unfoldable pub flight_members : Options → List (List ℕ × Value)
flight_members o =
    (codes "flight", text o.flight.name) ∷ (codes "now", minute o.clock) ∷ (codes "ttot", minute_value o.before) ∷ (codes "rule", rule_value o.rule)
    ∷ (codes "ctot", minute_value o.flight.ctot) ∷ (codes "placed", number o.counts.placed) ∷ (codes "delay", number o.counts.delay)
    ∷ (codes "max", number o.counts.greatest) ∷ (codes "late", number o.counts.late) ∷ (codes "blocked", number o.counts.blocked)
    ∷ (codes "tried", number o.tried) ∷ (codes "help", number (length o.helping)) ∷ (codes "refused", number o.refused) ∷ []

-- a record that helps, who may send it, the flight's take-off with it, and the indicators of the day with it
unfoldable pub help_members : CalendarDate → Option ℕ → Helping → List (List ℕ × Value)
help_members day before h =
    (codes "record", text (sent day h.update)) ∷ (codes "role", text (role_name (sender_of h.update))) ∷ (codes "ttot", minute h.ttot)
    ∷ (codes "gain", gain_value before h.ttot) ∷ (codes "placed", number h.counts.placed) ∷ (codes "delay", number h.counts.delay)
    ∷ (codes "max", number h.counts.greatest) ∷ (codes "late", number h.counts.late) ∷ (codes "blocked", number h.counts.blocked)
    ∷ (codes "moved", number h.moved) ∷ []

-- Lines.

-- a member, by its name and value
abbrev pub member_of : CalendarDate → List ℕ × Value → List ℕ × Json
member_of day m = (m.0, json_value day m.1)

-- the object of these members, on a line
abbrev pub object_line : CalendarDate → List (List ℕ × Value) → List ℕ
object_line day members = json_line (object_of (map (member_of day) members))

abbrev pub options_objects : CalendarDate → Options → List ℕ
options_objects day o = object_line day (flight_members o) ++ flat_map (λ h. object_line day (help_members day o.before h)) o.helping

-- On one line.

-- a record that helps, as an object
abbrev pub help_object : CalendarDate → Option ℕ → Helping → Json
help_object day before h = object_of (map (member_of day) (help_members day before h))

-- the records that help, one after another
abbrev pub helping_member : CalendarDate → Options → List (List ℕ × Json)
helping_member day o = (codes "options", array_of (map (help_object day o.before) o.helping)) ∷ []

-- the reply to the question of this number: the flight, and the records that help
abbrev pub options_reply : ℕ → CalendarDate → Options → List ℕ
options_reply n day o = answer_line (Some n) (codes "OPTIONS") (map (member_of day) (flight_members o) ++ helping_member day o)
