use Rattle.cdm_plan.{proofs.KeptLemmas.since_itself, proofs.KeptLemmas.since_taken, specs.declared.touched.Noting.TheVariants.CountedFlights}
use Rattle.cdm_view.proofs.differing.touched_by.Goals as goal

pub returns : goal.returns
returns c =
    let d = c.args.before.now in
    since_taken CountedFlights d d c.args.after.now c.none-touched.result c.note.new.self c.note-2.new.self c.args.update.now c.requires c.in_ok-note.ensures
    c.in_ok-note-2.ensures (since_itself d c.none-touched.result)
