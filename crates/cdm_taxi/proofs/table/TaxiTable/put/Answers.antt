use Rattle.std.proofs.Common.{◌≡◌, false, sym, subst}
use Rattle.cdm_flight.specs.Taxi.{TaxiRows, is_new_stand, stands_in}
use Rattle.cdm_taxi.{specs.inner.StandSet.AreStandsOf, proofs.RowLemmas.{OnErr-from, get-rows_of, rows_of-insert}}
use Rattle.cdm_taxi.proofs.StandLemmas.{are_stands_of-insert_old}
use Rattle.cdm_taxi.proofs.table.TaxiTable.put.Goals as goal

pub returns-in_err-insert-clause-new_row : goal.returns-in_err-insert-clause-new_row
returns-in_err-insert-clause-new_row c =
    OnErr-from c.from_residual.result
    (rw (sym c.self.view_is) (cc (get-rows_of c.self.inside.minutes (c.args.place, c.args.runway), c.in_err-insert.ensures.absent)))

pub invariant_of-self-then-not-is_new_stand : goal.invariant_of-self-then-not-is_new_stand
invariant_of-self-then-not-is_new_stand c =
    let is_old : is_new_stand (stands_in c.args.self.now) c.args.place ≡ false = cc in
    subst (λ (rows : TaxiRows). AreStandsOf rows c.self.inside.stands)
    (sym (rows_of-insert c.self.inside.minutes c.insert.new.self c.args.self.now (c.args.place, c.args.runway) c.args.minutes
    c.self.view_is c.in_ok-insert.ensures.updates.0))
    (are_stands_of-insert_old c.args.self.now c.self.inside.stands c.args.place c.args.runway c.args.minutes
    (subst (λ (rows : TaxiRows). AreStandsOf rows c.self.inside.stands) c.self.view_is c.self.invariant) is_old)

pub returns-then-not-is_new_stand-clause-ok : goal.returns-then-not-is_new_stand-clause-ok
returns-then-not-is_new_stand-clause-ok c =
    rows_of-insert c.self.inside.minutes c.insert.new.self _ (c.args.place, c.args.runway) c.args.minutes c.self.view_is c.in_ok-insert.ensures.updates.0
