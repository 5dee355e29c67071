use Rattle.std.proofs.Common.{◌≡◌, false, refl, sym, subst}
use Rattle.cdm_flight.specs.declared.place.Place.TheVariants as place
use Rattle.cdm_flight.specs.Taxi.{TaxiRows}
use Rattle.cdm_taxi.{specs.Stands.has_row, specs.inner.StandSet.AreStandsOf, proofs.RowLemmas.{OnErr-from, rows_of, rows_of-insert}}
use Rattle.cdm_taxi.proofs.StandLemmas.{no_row_of_stand, are_stands_of-insert_new, are_stands_of-taken_back}
use Rattle.cdm_taxi.proofs.table.TaxiTable.put_first.Goals as goal

pub returns-in_err-insert-clause-new_row : goal.returns-in_err-insert-clause-new_row
returns-in_err-insert-clause-new_row c = OnErr-from c.from_residual.result (no_row_of_stand c.args.self.now c.args.stand c.args.runway c.requires)

pub invariant_of-self-in-Ok : goal.invariant_of-self-in-Ok
invariant_of-self-in-Ok c =
    let m = c.self.inside.minutes in
    subst (λ (rows : TaxiRows). AreStandsOf rows c.insert.new.self)
    (sym (rows_of-insert m c.insert-2.new.self (rows_of m) (place.Stand c.args.stand, c.args.runway) c.args.minutes refl c.in-Ok.ensures.updates.0))
    (are_stands_of-insert_new (rows_of m) c.self.inside.stands c.insert.new.self c.args.stand c.args.runway c.args.minutes
    c.self.invariant c.in_ok-insert.ensures.updates.0)

pub invariant_of-self-in-Err : goal.invariant_of-self-in-Err
invariant_of-self-in-Err c =
    let is_new : has_row (rows_of c.self.inside.minutes) c.args.stand ≡ false = rw c.self.view_is c.requires in
    rw c.in-Err.ensures.err
    (are_stands_of-taken_back (rows_of c.self.inside.minutes) c.self.inside.stands c.insert.new.self c.remove.new.self c.args.stand
    c.self.invariant is_new c.in_ok-insert.ensures.updates.0 c.remove.ensures.updates.0)

pub returns-in-Ok-clause-ok : goal.returns-in-Ok-clause-ok
returns-in-Ok-clause-ok c =
    rows_of-insert c.self.inside.minutes c.insert-2.new.self _ (place.Stand c.args.stand, c.args.runway) c.args.minutes
    c.self.view_is c.in-Ok.ensures.updates.0

pub returns-in-Err-clause-new_row : goal.returns-in-Err-clause-new_row
returns-in-Err-clause-new_row c = no_row_of_stand c.args.self.now c.args.stand c.args.runway c.requires
