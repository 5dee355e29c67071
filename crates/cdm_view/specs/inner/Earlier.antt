-- The slots that are taken when a flight's turn comes.
use Rattle.std.specs.Prelude.{◌≡◌, ℕ, ◌+◌, ◌≤◌, ◌||◌, nat_le, Bool, false, List, drop, filter, map}
use Rattle.std.specs.List.{prefix_len}
use Rattle.std.specs.Option.{option_map_or}
use Rattle.std.specs.List.Sorted.{IsNonDecreasingBy}
use Rattle.cdm_flight.specs.declared.key.Key.{Key}
use Rattle.cdm_flight.specs.Order.{is_before}
use Rattle.cdm_flight.specs.Spacing.{occupancy_of}
use Rattle.cdm_runway.specs.Room.{meets, taken_by}
use Rattle.cdm_sequence.specs.Slots.{is_fixed}
use Rattle.cdm_sequence.specs.declared.slot.Slot.{Slot}
use Rattle.cdm_view.specs.Reasons.{Waiting, met_at}
use Rattle.cdm_view.specs.declared.turns.Turn.{Turn}

-- slots stand by take-off
abbrev pub IsByTakeOff : List Slot → Type 0
IsByTakeOff slots = IsNonDecreasingBy (λ s. s.ttot) slots

-- what a flight that waits keeps: the range of its taxi-out time, and the order of the slots
pub record KeepsEarlier (exot : ℕ) (earlier : List Slot) : Type 0 where
  pub taxi_range : exot ≤ 180
  pub in_order : IsByTakeOff earlier

-- those of some slots whose flights the flight would meet if it took off at the minute
abbrev pub met_among : Waiting → ℕ → List Slot → List Slot
met_among w m slots = filter (λ s. meets (taken_by w.rules w.flight.group m) (taken_by w.rules s.group s.ttot)) slots

-- the flight of the slot has left the runway by the minute
abbrev pub is_passed : Waiting → ℕ → Slot → Bool
is_passed w m s = nat_le (s.ttot + occupancy_of w.rules.spacing s.group) m

-- the slots from the first on whose flight hasn't
abbrev pub not_passed : Waiting → ℕ → List Slot → List Slot
not_passed w m slots = drop (prefix_len (is_passed w m) slots) slots

-- these slots stand by take-off, and have all whose flights the flight would meet if it took off at the minute or later
pub record IsAhead (w : Waiting) (m : ℕ) (slots : List Slot) : Type 0 where
  pub in_order : IsByTakeOff slots
  pub met : (k : ℕ) → m ≤ k → met_among w k slots ≡ met_at w k

-- the slot is taken when the turn of the flight with this key comes
abbrev pub is_taken : Key → Turn → Bool
is_taken key t = is_fixed t.slot.mark || option_map_or (λ k. is_before k key) t.key false

-- the slots that are
abbrev pub taken_slots : Key → List Turn → List Slot
taken_slots key turns = map (λ t. t.slot) (filter (is_taken key) turns)
