use Rattle.std.proofs.Common.{filter}
use Rattle.cdm_shift.{specs.StartUps.starts_at, proofs.ListLemmas.number_more}
use Rattle.cdm_shift.proofs.start_ups.starting.Goals as goal

pub loop-number-preserved : goal.loop-number-preserved
loop-number-preserved c =
    number_more (λ m. filter (starts_at m) c.args.rows.now) c.loop-number.found.items _ c.loop-number.number c.loop-number.invariant c.in_ok-push_starting.ensures
