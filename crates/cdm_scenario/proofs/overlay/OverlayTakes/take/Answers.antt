use Rattle.cdm_plan.{proofs.KeptLemmas.since_taken, specs.declared.touched.Noting.TheVariants.CountedFlights}
use Rattle.cdm_scenario.proofs.OverlayLemmas.{since_noted}
use Rattle.cdm_scenario.proofs.overlay.OverlayTakes.take.Goals as goal

pub invariant_of-self : goal.invariant_of-self
invariant_of-self c =
    let o = c.self.inside in
    since_noted o.base.now o.laid c.take.new.self o.touched c.note.new.touched c.in_err-take.ensures.err (λ r h. (c.note.ensures r h).0) c.self.invariant

pub invariant_of-self-2 : goal.invariant_of-self-2
invariant_of-self-2 c =
    let o = c.self.inside in
    since_taken CountedFlights o.base.now o.laid c.take.new.self o.touched c.note.new.touched c.note-2.new.touched c.args.update
    c.in_ok-take.ensures.ok c.note.ensures c.note-2.ensures c.self.invariant
