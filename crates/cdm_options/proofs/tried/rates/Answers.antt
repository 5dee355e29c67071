use Rattle.cdm_options.{specs.Tried.raised, proofs.ListLemmas.number_more}
use Rattle.cdm_options.proofs.tried.rates.Goals as goal

pub loop-cell-preserved : goal.loop-cell-preserved
loop-cell-preserved c =
    number_more (raised c.args.runway.now c.args.runs.now) c.loop-cell.found.items _ c.loop-cell.cell c.loop-cell.invariant c.in_ok-push_rate.ensures
