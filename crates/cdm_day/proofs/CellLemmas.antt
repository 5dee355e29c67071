-- A cell of a runway has one capacity.
use Rattle.cdm_day.proofs.Words.{rules, ◌≡◌, ◌<◌, ◌*◌, ◌/◌, ◌%◌, ◌==◌, ◌||◌, ◌&&◌, ℕ, Bool, true, false, not, None, Some, List, [], ◌∷◌}
use Rattle.cdm_day.proofs.Words.{◌++◌, refl, sym, ap, ◌∙◌, arith, mul-div_cancel, Role, accepted_is, cell_from, cell_to}
use Rattle.cdm_day.proofs.BatchLemmas.{accepted-keeps}
use Rattle.cdm_day.proofs.DayWords.{AirportRows, Rate, RunwayRow, Update, accepted, cap_given, cap_of, last_value, last_value-push}
use Rattle.cdm_day.proofs.DayWords.{reach_of, refusal_of, runway_row, same_reach, touching, touching-push, untouched, window_has, then_some}
use Rattle.std.{specs.Prelude.{nat_le, nat_lt}, specs.Option.option_or, proofs.lemmas.Bool.Decides.nat_tests}
use Rattle.cdm_plan.proofs.PlanWords.{same_is}
use Rattle.cdm_flight.specs.declared.reach.Reach.TheVariants as reach

module _ (g : AirportRows) (row : RunwayRow) (there : runway_row g row.name ≡ Some row) (positive : 0 < row.cell) where
  -- the first minute of a minute's cell
  abbrev first : ℕ → ℕ
  first m = m / row.cell * row.cell

  -- a window of whole cells has the first minute of a cell where it has another
  window_first : (from to m : ℕ) → from % row.cell ≡ 0 → to % row.cell ≡ 0 → window_has from to (first m) ≡ window_has from to m
  window_first from to m starts ends =
      let cell : first m / row.cell ≡ m / row.cell = mul-div_cancel (m / row.cell) positive in
      λ i. (sym (cell_from row.cell positive from (first m) starts) ∙ (ap (nat_le (from / row.cell)) cell ∙ cell_from row.cell positive from m starts)) i
      && (sym (cell_to row.cell positive to (first m) ends) ∙ (ap (λ k. nat_lt k (to / row.cell)) cell ∙ cell_to row.cell positive to m ends)) i

  on_grid : (from to : ℕ) → (nat_le to from || (not (from % row.cell == 0) || not (to % row.cell == 0))) ≡ false → (from % row.cell ≡ 0) × (to % row.cell ≡ 0)
  on_grid from to h = grind (arith, nat_tests)

  given : (a : List Update) (u : Update) (m : ℕ) → refusal_of g a u ≡ None → same_reach (reach_of u) (reach.Runway row.name) ≡ true → cap_given (first m) u ≡ cap_given m u
  given a (Rate r from to most) m good of_it =
      let own : runway_row g r ≡ Some row = ap (runway_row g) (same_is r row.name of_it) ∙ there in
      let grid = on_grid from to (rw own at (accepted_is g a (Rate r from to most) good).ordered) in
      ap (λ b. then_some b most) (window_first from to m grid.0 grid.1)
  given a u m good of_it = refl

  -- the last RATE says one capacity of a cell
  abbrev SaysOne : List Update → Type 0
  SaysOne a = (m : ℕ) → last_value (cap_given (first m)) (touching (reach.Runway row.name) a) ≡ last_value (cap_given m) (touching (reach.Runway row.name) a)

  one-push : (a : List Update) (u : Update) → refusal_of g a u ≡ None → SaysOne a → SaysOne (a ++ u ∷ [])
  one-push a u good says m = by (same_reach (reach_of u) (reach.Runway row.name)) refl
    where
      own : List Update
      own = touching (reach.Runway row.name) a

      by : (b : Bool) → same_reach (reach_of u) (reach.Runway row.name) ≡ b
          → last_value (cap_given (first m)) (touching (reach.Runway row.name) (a ++ u ∷ [])) ≡ last_value (cap_given m) (touching (reach.Runway row.name) (a ++ u ∷ []))
      by true e =
          rw (touching-push (reach.Runway row.name) a u e, last_value-push (cap_given (first m)) own u, last_value-push (cap_given m) own u)
          (λ i. option_or (given a u m good e i) (says m i))
      by false e = rw (untouched (reach.Runway row.name) a u e) (says m)

  says_one : (batch : List (Role × Update)) → SaysOne (accepted g [] batch)
  says_one batch = accepted-keeps SaysOne g one-push [] batch (λ m. refl)

pub one_capacity : (g : AirportRows) (batch : List (Role × Update)) (row : RunwayRow) (m : ℕ) → runway_row g row.name ≡ Some row → 0 < row.cell
    → cap_of g (accepted g [] batch) row.name (m / row.cell * row.cell) ≡ cap_of g (accepted g [] batch) row.name m
one_capacity g batch row m there positive = search (rules, says_one)
