-- What a runway allows in the next day.
use Rattle.std.proofs.Common.{◌≡◌, ℕ, ◌+◌, ◌*◌, ◌/◌, ◌<◌, false, List, refl, sym, ap, ◌∙◌, arith, IsTrue}
use Rattle.std.proofs.Math.Nat.{add-mul-div_right, mul-div_cancel, mul_assoc, add-mul}
use Rattle.std.proofs.lemmas.Nat.{div-add-mod'}
use Rattle.std.proofs.lemmas.List.FromFn.{get_or-map-range_with_len}
use Rattle.cdm_flight.specs.Cells.{is_cell_length}
use Rattle.cdm_flight.specs.declared.airport.RunwayRow.{RunwayRow}
use Rattle.cdm_flight.specs.declared.update.Update.{Update}
use Rattle.cdm_flight.specs.Journal.{AirportRows, cap_of, closed_of}
use Rattle.cdm_runway.specs.Rules.{RunwayRules}
use Rattle.cdm_runway.specs.Room.{cap_at, is_closed}
use Rattle.cdm_runway.proofs.CellLemmas.{cell_below, cell_length-divides}
use Rattle.cdm_plan.specs.Day.{rules_of}
use Rattle.cdm_change.specs.NextDay.{next_journal}
use Rattle.cdm_change.proofs.DayLemmas.{cap_of-next, closed_of-next}

-- Whole cells fill a day, so the next day begins with a cell.
pub day-cells : (c : ℕ) → IsTrue (is_cell_length c) → 1440 / c * c ≡ 1440
day-cells c h =
    let parts = cell_length-divides c h in
    let hour : 60 / c * c ≡ 60 = omega (arith, div-add-mod' 60 c, parts.2) in
    let day : 24 * (60 / c) * c ≡ 1440 = mul_assoc 24 (60 / c) c ∙ ap (λ n. 24 * n) hour in
    let cells : 1440 / c ≡ 24 * (60 / c) = ap (λ n. n / c) (sym day) ∙ mul-div_cancel (24 * (60 / c)) (omega (arith, parts.0)) in
    ap (λ n. n * c) cells ∙ day

-- The cell of a minute of the next day.
pub later-cell : (c m : ℕ) → IsTrue (is_cell_length c) → (m + 1440) / c ≡ m / c + 1440 / c
later-cell c m h =
    let parts = cell_length-divides c h in
    ap (λ n. (m + n) / c) (sym (day-cells c h)) ∙ add-mul-div_right m (1440 / c) (omega (arith, parts.0))

cell-begin : (c m : ℕ) → IsTrue (is_cell_length c) → (m + 1440) / c * c ≡ m / c * c + 1440
cell-begin c m h = ap (λ n. n * c) (later-cell c m h) ∙ add-mul (m / c) (1440 / c) c ∙ ap (λ n. m / c * c + n) (day-cells c h)

-- One runway allows in the next day what the other allows from minute 1440 on.
pub record IsNextRunway (before after : RunwayRules) : Type 0 where
  pub name : after.name ≡ before.name
  pub cell : after.cell ≡ before.cell
  pub cell_length : IsTrue (is_cell_length before.cell)
  pub spacing : after.spacing ≡ before.spacing
  pub closed : (m : ℕ) → m < 1440 → is_closed after m ≡ is_closed before (m + 1440)
  pub caps : (m : ℕ) → m < 1440 → cap_at after m ≡ cap_at before (m + 1440)

pub next_runway : (g h : AirportRows) → h.runways ≡ g.runways → (a : List Update) (row : RunwayRow) → IsTrue (is_cell_length row.cell)
    → IsNextRunway (rules_of g a row) (rules_of h (next_journal a) row)
unfolding rules_of
next_runway g h rows a row fits = record {
  name = refl;
  cell = refl;
  cell_length = fits;
  spacing = refl;
  closed = λ m early.
      get_or-map-range_with_len (λ k. closed_of (next_journal a) row.name k) 0 2880 m m false (omega (arith, early)) (omega arith)
      ∙ closed_of-next a row.name m
      ∙ sym (get_or-map-range_with_len (λ k. closed_of a row.name k) 0 2880 (m + 1440) (m + 1440) false (omega (arith, early)) (omega arith));
  caps = λ m early.
      let c = row.cell in
      get_or-map-range_with_len (λ k. cap_of h (next_journal a) row.name (k * c)) 0 (2880 / c) (m / c) (m / c) 0 (cell_below c m fits (omega (arith, early))) (omega arith)
      ∙ cap_of-next g h rows a row.name (m / c * c)
      ∙ ap (cap_of g a row.name) (sym (cell-begin c m fits))
      ∙ sym (get_or-map-range_with_len (λ k. cap_of g a row.name (k * c)) 0 (2880 / c) ((m + 1440) / c) ((m + 1440) / c) 0
      (cell_below c (m + 1440) fits (omega (arith, early))) (omega arith));
}
