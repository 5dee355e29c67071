use Rattle.cdm_runway.proofs.Words.{◌≡◌, ◌<◌, ◌++◌, ◌∷◌, [], ℕ, List, max, ap, ◌∙◌, arith, slice_index, common_steps, get_or_default_zero}
use Rattle.cdm_runway.{proofs.Words.map-append, proofs.LoadLemmas.longest-push, specs.inner.Tally.noted, specs.declared.load.Taken.Taken}
use Rattle.cdm_runway.proofs.load.RunwayLoad.take.Goals as goal

pub invariant_of-self : goal.invariant_of-self
invariant_of-self c =
    let inside = c.self.inside in
    let longest = inside.longest in
    let kept = c.self.invariant.kept in
    let t : Taken = record { minute = c.args.minute; occupancy = c.occupancy-occupancy.result } in
    let below : c.args.minute < 2880 = omega (arith, c.get-place.ensures.value, c.get-place.ensures.in_horizon) in
    let taken = noted inside.taken.notes in
    let next : noted c.note.new.self.notes ≡ taken ++ t ∷ [] = ap noted c.note.ensures ∙ map-append (λ (n : Taken × List ℕ). n.0) inside.taken.notes ((t, []) ∷ []) in
    let longer : c.longer.result ≡ max (slice_index longest c.args.minute) c.occupancy-occupancy.result =
    rw c.get-place.ensures.value at c.longer.ensures
    ∙ ap (λ n. max n c.occupancy-occupancy.result) (get_or_default_zero longest c.args.minute c.index-self-place.result (omega (arith, kept.minutes))) in
    record {
      cell_length = c.self.invariant.cell_length;
      within = rw next (grind (arith, common_steps));
      tally = rw next (grind (arith, common_steps));
      kept = rw (c.get-place.ensures.value, next) (longest-push taken t longest c.longer.result kept below c.occupancy-occupancy.ensures.range longer);
    }
