use Rattle.std.proofs.lemmas.List.Elements.{same_from_all_zip}
use Rattle.cdm_taxi.proofs.RowLemmas.{entries-clone}
use Rattle.cdm_taxi.proofs.table.TaxiTable.copy.Goals as goal

pub invariant_of-result : goal.invariant_of-result
invariant_of-result c = λ stand.
    let names = same_from_all_zip _ c.self.inside.stands.keys _ c.in_ok-stands.ensures.cases (λ x y e. e) in
    rw (entries-clone c.self.inside.minutes.entries _ c.in_ok-minutes.ensures.cases, names) (c.self.invariant stand)

pub returns : goal.returns
returns c = rw (entries-clone c.self.inside.minutes.entries _ c.in_ok-minutes.ensures.cases) c.self.view_is
