use Rattle.std.proofs.{Common.{ℕ, List, ap, sym}, lemmas.Bool.Decides.Decides-eqb}
use Rattle.std.specs.FinMap as map
use Rattle.cdm_taxi.proofs.RowLemmas.{Key, entries-same_rows}
use Rattle.cdm_taxi.proofs.table.TaxiTable.is_same.Goals as goal

pub returns-then-len : goal.returns-then-len
returns-then-len c =
    let back = entries-same_rows c.self.inside.minutes c.other.inside.minutes c.len.ensures.ordered c.len-2.ensures.ordered in
    rw (sym c.self.view_is, sym c.other.view_is)
    (λ yes. ap (λ (es : List (Key × ℕ)). map.from_entries es) (c.is_same_times.ensures.0 yes), λ same. c.is_same_times.ensures.1 (back same))

pub returns-else-len : goal.returns-else-len
returns-else-len c =
    let back = entries-same_rows c.self.inside.minutes c.other.inside.minutes c.len.ensures.ordered c.len-2.ensures.ordered in
    rw (sym c.self.view_is, sym c.other.view_is)
    (λ yes. absurd (c.if-len.false ((Decides-eqb _ _).0 yes)), λ same. let es = back same in (Decides-eqb _ _).1 (cc))
