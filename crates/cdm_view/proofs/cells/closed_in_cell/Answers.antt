use Rattle.std.proofs.Common.{◌≡◌, ◌+◌, ◌-◌, arith}
use Rattle.cdm_runway.specs.Room.{is_closed}
use Rattle.cdm_view.proofs.{RangeLemmas.count_more, cells.closed_in_cell.Goals.then-closed, cells.closed_in_cell.Goals.else-closed}
use Rattle.cdm_view.proofs.cells.closed_in_cell.Goals as goal

pub loop-number-preserved : goal.loop-number-preserved
loop-number-preserved c =
    let first = c.get-first.result in
    let number = c.loop-number.number in
    let order = c.loop-number.auto.number in
    let more : number + 1 - first ≡ number - first + 1 = omega arith in
    let step = count_more (is_closed c.args.runway.now) first (number - first) number (omega arith) in
    elim c.if-closed.branch [
      | then-closed w ↦ (grind arith, omega arith)
      | else-closed w ↦ (grind arith, omega arith)
    ]
