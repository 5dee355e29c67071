use Rattle.cdm_runway.proofs.Words.{◌≡◌, ℕ, ◌∙◌, ap, length, sym, arith, if◌then◌else◌, window_has}
use Rattle.cdm_runway.proofs.IntervalLemmas.{given_as_rest, in_three_parts, length-values_of, values_of-with_range}
use Rattle.cdm_runway.{proofs.intervals.Intervals.set.Goals.{then-ne+in_ok-push_joined, else-ne}, specs.inner.Intervals.value_at}
use Rattle.std.proofs.lemmas.Bool.{not-false}
use Rattle.cdm_runway.proofs.intervals.Intervals.set.Goals as goal

pub push_part-requires-2-clause-places : goal.push_part-requires-2-clause-places
push_part-requires-2-clause-places g c = omega (arith, simp length-values_of at (ap length c.self.view_is))

pub returns-clause-ok : goal.returns-clause-ok
returns-clause-ok g c =
    let inside = c.self.inside in
    let rest = inside.rest in
    let from = c.args.from in
    let to = c.args.to in
    let value = c.args.value in
    let old = inside.listed.items in
    let cut = (rw (c.deref.ensures.value, c.new-listed.ensures.items) at c.in_ok-push_part.ensures).values in
    let rest_of = (rw c.deref-2.ensures.value at c.in_ok-push_part-2.ensures).values in
    let given : (k : ℕ) → value_at c.if-ne.listed.items k rest
    ≡ (if window_has from to k then value else (if window_has 0 from k then value_at old k rest else rest)) = λ k.
    elim c.if-ne.branch [
      | then-ne+in_ok-push_joined w ↦
          ap (λ v. value_at v.items k rest) w.listed-is ∙ w.in_ok-push_joined.ensures.values k rest
          ∙ ap (λ v. if window_has from to k then value else v) (cut k rest)
      | else-ne w ↦
          ap (λ v. value_at v.items k rest) w.listed-is ∙ cut k rest
          ∙ given_as_rest from to k value (value_at old k rest) rest
          (c.requires.same value rest (not-false (g.V.PartialEq.eq value rest) (sym w.if-ne.ensures)))
    ] in
    rw (sym c.self.view_is)
    (values_of-with_range inside.places rest old c.push_part-2.new.kept.items from to value (omega (arith, c.requires.order))
    (omega (arith, c.requires.within, simp length-values_of at (ap length c.self.view_is)))
    (λ k below. rest_of k rest ∙ ap (λ v. if window_has to inside.places k then value_at old k rest else v) (given k)
    ∙ in_three_parts from to inside.places k value (value_at old k rest) rest c.requires.order below))
