-- What holds a planned flight on its stand, minute by minute.
use Rattle.std.specs.Prelude.{ℕ, ◌+◌, ◌/◌, ◌==◌, ◌||◌, Bool, true, false, not, nat_le, nat_lt, if◌then◌else◌, List, [], filter, length, map, Option, None, Some}
use Rattle.std.specs.List.{find}
use Rattle.std.specs.Option.{option_and_then, option_map, option_map_or}
use Rattle.cdm_time.specs.Windows.{is_in_tolerance}
use Rattle.cdm_flight.specs.declared.key.Key.{Key}
use Rattle.cdm_flight.specs.declared.values.DayValues.{DayValues}
use Rattle.cdm_flight.specs.Journal.{flight_of, runway_row, taxi_of, values_of}
use Rattle.cdm_flight.specs.Names.{same_name}
use Rattle.cdm_flight.specs.Order.{is_before}
use Rattle.cdm_flight.specs.Record.{key_of}
use Rattle.cdm_flight.specs.declared.flight.Flight.{Flight}
use Rattle.cdm_runway.specs.Rules.{RunwayRules}
use Rattle.cdm_runway.specs.Room.{cap_at, is_closed, meets, taken_by}
use Rattle.cdm_flight.specs.Taxi.{stand_minutes}
use Rattle.cdm_sequence.specs.Aims.{exot_to}
use Rattle.cdm_sequence.specs.Slots.{is_fixed}
use Rattle.cdm_sequence.specs.declared.plan.Plan.{Plan}
use Rattle.cdm_sequence.specs.declared.slot.Slot.{Slot}
use Rattle.cdm_plan.specs.Day.{DayRecord, rules_of}
use Rattle.cdm_view.specs.declared.reason.Reason.{Reason}
use Rattle.cdm_view.specs.declared.reason.Reason.TheVariants.{Ice, Now, Ctot, Closure, Spacing, Rate}

-- a flight with its TOBT and its taxi-out time to its runway, the values of the day, what the runway allows, and
-- the slots on it that are taken when the flight's turn comes
pub record Waiting : Type 0 where
  pub flight : Flight
  pub tobt : ℕ
  pub exot : ℕ
  pub values : DayValues
  pub rules : RunwayRules
  pub earlier : List Slot

-- the slots whose flights the flight would meet if it took off at the minute
abbrev pub met_at : Waiting → ℕ → List Slot
met_at w m = filter (λ s. meets (taken_by w.rules w.flight.group m) (taken_by w.rules s.group s.ttot)) w.earlier

-- the slots in the cell of the minute
abbrev pub held_at : Waiting → ℕ → List Slot
held_at w m = filter (λ s. s.ttot / w.rules.cell == m / w.rules.cell) w.earlier

abbrev pub names_of : List Slot → List (List ℕ)
names_of slots = map (λ s. s.name) slots

-- why the flight can't take off at the minute: the first of these that holds
unfoldable pub reason_at : Waiting → ℕ → Option Reason
reason_at w m =
    if nat_lt m (w.tobt + stand_minutes w.flight.ice + w.exot) then Some Ice
    else if nat_lt m (w.values.clock + w.exot) then Some Now
    else if not (option_map_or (λ c. is_in_tolerance w.values.tolerance c m) w.flight.ctot true) then Some Ctot
    else if is_closed w.rules m then Some Closure
    else if not (length (met_at w m) == 0) then Some (Spacing (names_of (met_at w m)))
    else if nat_le (cap_at w.rules m) (length (held_at w m)) then Some (Rate (cap_at w.rules m) (names_of (held_at w m)))
    else None

-- the slots that the plan has on a runway, by take-off and name
abbrev pub slots_on : Plan → List ℕ → List Slot
slots_on plan r = option_map_or (λ p. p.slots) (find (λ p. same_name p.runway r) plan.runways) []

-- the slot is taken when the turn of the flight with this key comes: its own flight has left its stand, or comes
-- before the other in the order of sequence
abbrev pub is_earlier : DayRecord → Key → Slot → Bool
is_earlier d key s = is_fixed s.mark || option_map_or (λ k. is_before k key) (option_and_then key_of (flight_of d.airport d.journal s.name)) false

-- what the flight waits for, if it has a TOBT, a runway of the airport and a taxi-out time to it
unfoldable pub waiting_of : DayRecord → Plan → Flight → Option Waiting
waiting_of d plan f =
    option_and_then (λ key. option_and_then (λ r. option_and_then (λ row. option_map (λ exot. record {
      flight = f;
      tobt = key.tobt;
      exot = exot;
      values = values_of d.journal;
      rules = rules_of d.airport d.journal row;
      earlier = filter (is_earlier d key) (slots_on plan r);
    }) (exot_to (taxi_of d.airport d.journal) f r)) (runway_row d.airport r)) f.runway) (key_of f)
