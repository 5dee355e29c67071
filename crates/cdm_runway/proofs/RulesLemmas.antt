-- What the rules of a runway say of its minutes.
use Rattle.cdm_runway.proofs.Words.{common_steps, ◌≡◌, ℕ, ◌<◌, ◌≤◌, ◌/◌, ◌%◌, Bool, true, List, length, arith, ◌∙◌, rules, if◌then◌else◌}
use Rattle.cdm_runway.proofs.{Words.{not, ◌||◌, ◌==◌, nat_le, nat_tests, window_has}, RangeLemmas.{get_or-with_range, length-with_range}}
use Rattle.cdm_runway.proofs.CellLemmas.{cell_length-divides, cell_from, cell_to}
use Rattle.cdm_runway.specs.{Rules.{RunwayRules, AreRules, is_rate_window, with_range, with_rate, with_closed}, Room.{cap_at, is_closed}}

-- a rate's window has a minute and begins and ends with a cell
pub rate_window-says : (cell from to : ℕ) → is_rate_window cell from to ≡ true → (from < to) × (from % cell ≡ 0) × (to % cell ≡ 0)
rate_window-says cell from to h = grind (arith, nat_tests)

-- it is what no word refuses
pub rate_window-in_order : (cell from to : ℕ) → not (is_rate_window cell from to) ≡ (nat_le to from || (not (from % cell == 0) || not (to % cell == 0)))
rate_window-in_order cell from to = grind (arith, nat_tests)

-- its cells are cells of the horizon
pub cells_of_rate_window : (cell : ℕ) (caps : List ℕ) (closed : List Bool) (from to : ℕ) → AreRules cell caps closed → is_rate_window cell from to ≡ true
    → to ≤ 2880
    → (from / cell ≤ to / cell) × (to / cell ≤ length caps)
cells_of_rate_window cell caps closed from to rules window within = grind (arith, common_steps)

-- after a RATE there are as many cells and minutes as before
pub are_rules-with_rate : (cell : ℕ) (caps : List ℕ) (closed : List Bool) (from to cap : ℕ) → AreRules cell caps closed → is_rate_window cell from to ≡ true
    → to ≤ 2880
    → AreRules cell (with_range caps (from / cell) (to / cell) cap) closed
are_rules-with_rate cell caps closed from to cap rules window within =
    let cells = cells_of_rate_window cell caps closed from to rules window within in
    record {
      cell_length = rules.cell_length;
      cells = length-with_range caps (from / cell) (to / cell) cap cells.0 cells.1 ∙ rules.cells;
      minutes = rules.minutes;
    }

-- after a RATE the minutes of its window have its capacity, and the others theirs
pub cap_at-with_rate : (r : RunwayRules) (from to cap m : ℕ) → AreRules r.cell r.caps r.closed → is_rate_window r.cell from to ≡ true → to ≤ 2880
    → cap_at (with_rate r from to cap) m ≡ (if window_has from to m then cap else cap_at r m)
cap_at-with_rate r from to cap m rules window within =
    let parts = cell_length-divides r.cell rules.cell_length in
    let says = rate_window-says r.cell from to window in
    let cells = cells_of_rate_window r.cell r.caps r.closed from to rules window within in
    get_or-with_range r.caps (from / r.cell) (to / r.cell) cap 0 (m / r.cell) cells.0 cells.1
    ∙ rw (cell_from r.cell parts.0 from m says.1, cell_to r.cell parts.0 to m says.2)

-- after a CLOSE or OPEN the minutes of its window are closed or open, and the others as they were
pub is_closed-with_closed : (r : RunwayRules) (from to : ℕ) (closed : Bool) (m : ℕ) → AreRules r.cell r.caps r.closed → from ≤ to → to ≤ 2880
    → is_closed (with_closed r from to closed) m ≡ (if window_has from to m then closed else is_closed r m)
is_closed-with_closed r from to closed m rules order within = grind (arith, common_steps, get_or-with_range)
