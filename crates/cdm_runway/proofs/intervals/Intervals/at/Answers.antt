use Rattle.cdm_runway.proofs.{Words.{ap, sym, length, arith, nat_tests}, IntervalLemmas.{length-values_of, value_or_past}}
use Rattle.cdm_runway.proofs.intervals.Intervals.at.Goals as goal

pub returns-in_default-clause-some : goal.returns-in_default-clause-some
returns-in_default-clause-some g c = omega (arith, simp length-values_of at (ap length c.self.view_is))

pub returns-in_default-clause-within : goal.returns-in_default-clause-within
returns-in_default-clause-within g c = omega (arith, simp length-values_of at (ap length c.self.view_is))

pub returns-in_default-clause-values : goal.returns-in_default-clause-values
returns-in_default-clause-values g c = λ k from to.
    rw (sym c.self.view_is)
    (value_or_past c.self.inside.places c.self.inside.rest c.self.inside.listed.items k c.self.inside.rest
    ((rw c.deref.ensures.value at c.in_default.ensures) k c.self.inside.rest from))

pub returns-then-place-next-clause-within : goal.returns-then-place-next-clause-within
returns-then-place-next-clause-within g c =
    let next = rw c.deref.ensures.value at c.in-Some.ensures in
    omega (arith, next.some, next.within, c.self.invariant.within, simp length-values_of at (ap length c.self.view_is))

pub returns-then-place-next-clause-values : goal.returns-then-place-next-clause-values
returns-then-place-next-clause-values g c = λ k from to.
    let next = rw c.deref.ensures.value at c.in-Some.ensures in
    let value = next.values k c.self.inside.rest from (omega (arith, next.some)) in
    rw (sym c.self.view_is)
    (value_or_past c.self.inside.places c.self.inside.rest c.self.inside.listed.items k c.self.inside.rest (grind (arith, nat_tests, value)))

pub returns-clause-within : goal.returns-clause-within
returns-clause-within g c =
    let next = rw c.deref.ensures.value at c.in-Some.ensures in
    omega (arith, next.within, c.self.invariant.within, simp length-values_of at (ap length c.self.view_is))

pub returns-clause-values : goal.returns-clause-values
returns-clause-values g c = λ k from to.
    let next = rw c.deref.ensures.value at c.in-Some.ensures in
    let value = next.values k c.self.inside.rest from to in
    rw (sym c.self.view_is)
    (value_or_past c.self.inside.places c.self.inside.rest c.self.inside.listed.items k c.in-Some.next.value (grind (arith, nat_tests, value)))
