-- Where the minutes of delay come from.
use Rattle.std.specs.Prelude.{◌≡◌, ◌↔◌, ℕ, Bool, Contains, true, false, not, ◌&&◌, ◌||◌, nat_le, nat_lt, if◌then◌else◌, List, [], count_by, filter, flat_map, fold, insert, length, map, slice_index, take, Option, None, Some}
use Rattle.std.specs.List.{AllPairs, list_any, prefix_len}
use Rattle.cdm_flight.specs.Names.{is_name, name_cmp, same_name}
use Rattle.std.specs.declared.cmp.Ordering.{Ordering}
use Rattle.std.specs.declared.cmp.Ordering.TheVariants.{Less}
use Rattle.cdm_sequence.specs.declared.plan.Plan.{Plan}
use Rattle.cdm_plan.specs.Day.{DayRecord}
use Rattle.cdm_row.specs.declared.row.Row.{Row}
use Rattle.cdm_row.specs.declared.row.RowStatus.{RowStatus}
use Rattle.cdm_row.specs.declared.row.RowStatus.TheVariants as status
use Rattle.cdm_view.specs.Causes.{same_cause}
use Rattle.cdm_view.specs.declared.cause.Cause.{Cause}
use Rattle.cdm_view.specs.declared.cause.Cause.TheVariants.{Ice, Ctot, Closure, Spacing, Rate, Now}
use Rattle.cdm_shift.specs.Held.{causes_named}
use Rattle.cdm_shift.specs.StartUps.{is_planned}
use Rattle.cdm_shift.specs.declared.costs.Costs.{Costs}
use Rattle.cdm_shift.specs.declared.question.GroupBy.{GroupBy}
use Rattle.cdm_shift.specs.declared.question.GroupBy.TheVariants as by

-- Groups.

-- on its stand, without a slot
abbrev pub is_blocked : RowStatus → Bool
is_blocked status.Blocked = true
is_blocked _ = false

-- on its stand
abbrev pub is_on_stand : Row → Bool
is_on_stand row = is_planned row.status || is_blocked row.status

abbrev pub is_digit : ℕ → Bool
is_digit byte = nat_le 48 byte && nat_le byte 57

-- a name begins with three letters, since it has no other bytes than letters and digits, and then a digit
abbrev pub has_operator : List ℕ → Bool
has_operator name = nat_lt 3 (length name) && not (list_any is_digit (take 3 name)) && is_digit (slice_index name 3)

-- the operator of a flight: the first three bytes of its name, where they are letters and a digit follows
unfoldable pub operator_of : List ℕ → Option (List ℕ)
operator_of name = if has_operator name then (if is_name 3 (take 3 name) then Some (take 3 name) else None) else None

-- the group of a Row, which has a name or is the one of all others
abbrev pub group_of : GroupBy → Row → Option (List ℕ)
group_of by.All row = None
group_of by.Runway row = row.runway
group_of by.Operator row = operator_of row.flight

abbrev pub is_less : Ordering → Bool
is_less Less = true
is_less _ = false

-- the order of groups: the one without a name, and then by name
abbrev pub group_before : Option (List ℕ) → Option (List ℕ) → Bool
group_before None None = false
group_before None (Some h) = true
group_before (Some g) None = false
group_before (Some g) (Some h) = is_less (name_cmp g h)

abbrev pub same_group : Option (List ℕ) → Option (List ℕ) → Bool
same_group None None = true
same_group None (Some h) = false
same_group (Some g) None = false
same_group (Some g) (Some h) = same_name g h

-- groups in their order, with one more, which may be among them
unfoldable pub with_group : List (Option (List ℕ)) → Option (List ℕ) → List (Option (List ℕ))
with_group groups g =
    if list_any (same_group g) groups then groups else insert groups (prefix_len (λ h. group_before h g) groups) g

-- the groups of Rows, each once and in their order
abbrev pub groups_of : GroupBy → List Row → List (Option (List ℕ))
groups_of by rows = fold with_group [] (map (group_of by) rows)

-- the groups of Rows in the words of the field: in their order, each once, and exactly those that a Row has
pub record AreGroups (by : GroupBy) (rows : List Row) (groups : List (Option (List ℕ))) : Type 0 where
  pub in_order : AllPairs (λ g h. group_before g h ≡ true) groups
  pub those : (g : Option (List ℕ)) → Contains groups g ↔ Contains (map (group_of by) rows) g

-- Costs.

-- the minutes that have this cause
abbrev pub minutes_of : Cause → List Cause → ℕ
minutes_of cause causes = count_by (same_cause cause) causes

-- what holds the flights of these Rows: how many have a slot, how many minutes they are held in all and by which cause, and how
-- many have none
abbrev pub costs_by : List Row → List Cause → Costs
costs_by rows causes = record {
  placed = count_by (λ row. is_planned row.status) rows;
  delay = length causes;
  ice = minutes_of Ice causes;
  ctot = minutes_of Ctot causes;
  closure = minutes_of Closure causes;
  spacing = minutes_of Spacing causes;
  rate = minutes_of Rate causes;
  clock = minutes_of Now causes;
  blocked = count_by (λ row. is_blocked row.status) rows;
}

unfoldable pub costs_of : DayRecord → Plan → List Row → Costs
costs_of d plan rows = costs_by rows (flat_map (λ row. causes_named d plan row.flight) rows)

-- the Rows of a group
abbrev pub rows_in : GroupBy → List Row → Option (List ℕ) → List Row
rows_in by rows g = filter (λ row. same_group (group_of by row) g) rows

-- the flights on their stands
abbrev pub on_stand : List Row → List Row
on_stand rows = filter is_on_stand rows

-- the groups to be told: none, where all flights are told together
abbrev pub told_groups : GroupBy → List Row → List (Option (List ℕ))
told_groups by.All rows = []
told_groups by.Runway rows = groups_of by.Runway rows
told_groups by.Operator rows = groups_of by.Operator rows
