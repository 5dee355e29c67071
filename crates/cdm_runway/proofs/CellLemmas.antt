-- Whole cells fill the horizon.
use Rattle.std.proofs.Common.{◌≡◌, ℕ, ◌*◌, ◌/◌, ◌%◌, ◌<◌, ◌≤◌, nat_le, nat_lt, IsTrue, sym, ap, ◌∙◌, arith, rules}
use Rattle.std.proofs.{lemmas.Bool.Decides.nat_tests, lemmas.Nat.{div-add-mod', div_below, le-div}, Math.Nat.{mul-div_cancel, mul_assoc}}
use Rattle.cdm_flight.specs.Cells.{is_cell_length}

-- a cell length is one of 1 to 60 minutes and divides the hour
pub cell_length-divides : (c : ℕ) → IsTrue (is_cell_length c) → (1 ≤ c) × (c ≤ 60) × (60 % c ≡ 0)
cell_length-divides c h = grind (arith, nat_tests)

-- cells of any length fill the horizon
pub cells-fill : (c : ℕ) → IsTrue (is_cell_length c) → 2880 / c * c ≡ 2880
cells-fill c h =
    let parts = cell_length-divides c h in
    let hour : 60 / c * c ≡ 60 = omega (arith, div-add-mod' 60 c, parts.2) in
    let horizon : 48 * (60 / c) * c ≡ 2880 = mul_assoc 48 (60 / c) c ∙ ap (λ n. 48 * n) hour in
    let cells : 2880 / c ≡ 48 * (60 / c) = ap (λ n. n / c) (sym horizon) ∙ mul-div_cancel (48 * (60 / c)) (omega (arith, parts.0)) in
    ap (λ n. n * c) cells ∙ horizon

-- cells begin at the same minutes as the windows that cut none
module _ (c : ℕ) (positive : 1 ≤ c) where
  on_grid : (n : ℕ) → n % c ≡ 0 → n / c * c ≡ n
  on_grid n grid = omega (arith, div-add-mod' n c, grid)

  pub cell_from : (from m : ℕ) → from % c ≡ 0 → nat_le (from / c) (m / c) ≡ nat_le from m
  cell_from from m grid =
      let whole = on_grid from grid in
      grind (arith, nat_tests, div_below m c (from / c) positive, le-div (from / c) m c positive)

  pub cell_to : (to m : ℕ) → to % c ≡ 0 → nat_lt (m / c) (to / c) ≡ nat_lt m to
  cell_to to m grid = let begun = cell_from to m grid in grind (arith, nat_tests)

  pub cells_in_order : (n m : ℕ) → n ≤ m → n / c ≤ m / c
  cells_in_order n m below = le-div (n / c) m c positive (omega (arith, div-add-mod' n c))

-- each minute of the horizon is in one of its cells
pub cell_below : (c m : ℕ) → IsTrue (is_cell_length c) → m < 2880 → m / c < 2880 / c
cell_below c m h below = search (rules, cell_length-divides, div_below, cells-fill)
