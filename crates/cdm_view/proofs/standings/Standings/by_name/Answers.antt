use Rattle.std.proofs.Common.{rules}
use Rattle.cdm_flight.specs.Names.{same_name}
use Rattle.cdm_plan.proofs.{ListWords.IsDistinct-IsPermutation, ListWords.IsPermutation-map, ListWords.answers_always, PlanWords.same_flips}
use Rattle.cdm_view.specs.Standings.{flight_name}
use Rattle.cdm_view.proofs.standings.Standings.by_name.Goals as goal

pub invariant_of-result : goal.invariant_of-result
invariant_of-result c =
    let sort = c.sort_unstable_by_key.ensures in
    record {
      by_name = sort.sorted flight_name (answers_always _ _ _ (λ f a r q k. search rules));
      apart = IsDistinct-IsPermutation same_name same_flips _ _ (IsPermutation-map flight_name _ _ sort.permutation) c.requires;
    }

pub returns-clause-keeps : goal.returns-clause-keeps
returns-clause-keeps c = invariant_of-result c
