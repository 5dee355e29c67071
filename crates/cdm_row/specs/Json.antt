-- JSON values made of lists, and the JSON value of a Row.
use Rattle.std.specs.Prelude.{ℕ, List, [], ◌∷◌, map, Option}
use Rattle.std.specs.Fmt.{decimal}
use Rattle.std.specs.Option.{option_map_or}
use Rattle.json.specs.Json.{Json, Items, Members, array, item, member, no_items, no_members, null, number, object, string}
use Rattle.json.specs.Token.{Token, key}
use Rattle.json.specs.Tree.{json_tokens}
use Rattle.cdm_time.specs.declared.calendar.CalendarDate.{CalendarDate}
use Rattle.cdm_time.specs.Times.{time_text}
use Rattle.cdm_row.specs.Columns as column
use Rattle.cdm_row.specs.Columns.{Value, columns}
use Rattle.cdm_row.specs.declared.row.Row.{Row}

-- the object of these members, by their names
abbrev pub members_of : List (List ℕ × Json) → Members
members_of [] = no_members
members_of (m ∷ members) = member m.0 m.1 (members_of members)

abbrev pub object_of : List (List ℕ × Json) → Json
object_of members = object (members_of members)

-- a member as it is written
abbrev pub member_tokens : List ℕ × Json → List Token
member_tokens m = key m.0 ∷ json_tokens m.1

-- the array of these values
abbrev pub items_of : List Json → Items
items_of [] = no_items
items_of (value ∷ values) = item value (items_of values)

abbrev pub array_of : List Json → Json
array_of values = array (items_of values)

-- a value, or null where there is none
abbrev pub or_null : {X : Type 0} → (X → Json) → Option X → Json
or_null value o = option_map_or value o null

-- a count
abbrev pub count_json : ℕ → Json
count_json count = number (decimal count)

-- what stands in a column; times are in full
abbrev pub json_value : CalendarDate → Value → Json
json_value day column.nothing = null
json_value day (column.text t) = string t
json_value day (column.number n) = number (decimal n)
json_value day (column.minute m) = string (time_text day m)

-- the members of a Row
abbrev pub row_members : CalendarDate → Row → List (List ℕ × Json)
row_members day row = map (λ c. (c.0, json_value day (c.1 row))) columns

abbrev pub row_json : CalendarDate → Row → Json
row_json day row = object_of (row_members day row)
