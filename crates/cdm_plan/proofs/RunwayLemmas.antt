-- What leaves a runway as it is.
use Rattle.std.proofs.Common.{◌≡◌, ◌*◌, ◌/◌, false, List, ◌∷◌, ◌++◌, map, sym, []}
use Rattle.cdm_flight.specs.declared.reach.Reach.TheVariants as reach
use Rattle.cdm_flight.proofs.JournalLemmas.{untouched}
use Rattle.cdm_plan.proofs.ListWords.{option_map_or, range_with_len, unwrap_or}
use Rattle.cdm_plan.proofs.PlanWords.{RunwayRow, Update, AirportRows, cap_given, closed_given, last_value, reach_of, rules_of, runway_row}
use Rattle.cdm_plan.proofs.PlanWords.{same_reach}

-- an update that touches something else
pub rules-same : (g : AirportRows) (a : List Update) (row : RunwayRow) (u : Update) → same_reach (reach_of u) (reach.Runway row.name) ≡ false
    → rules_of g a row ≡ rules_of g (a ++ u ∷ []) row
unfolding rules_of
rules-same g a row u other =
    let same = untouched (reach.Runway row.name) a u other in
    let plain = option_map_or (λ (x : RunwayRow). x.cap) (runway_row g row.name) 0 in
    λ i. record {
      name = row.name;
      cell = row.cell;
      caps = map (λ k. unwrap_or (last_value (cap_given (k * row.cell)) (sym same i)) plain) (range_with_len 0 (2880 / row.cell));
      closed = map (λ m. unwrap_or (last_value (closed_given m) (sym same i)) false) (range_with_len 0 2880);
      spacing = row.spacing;
    }
