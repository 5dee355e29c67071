use Rattle.std.proofs.{Common.rules, lemmas.Slice.Eq.slice_eq-Decides}
use Rattle.cdm_day.proofs.airport.are_same_rows.Goals as goal

pub returns : goal.returns
returns c = slice_eq-Decides (λ a b. search rules) _ _ _ c.eq.ensures
