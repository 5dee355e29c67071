use Rattle.std.proofs.Common.{append-nil, arith}
use Rattle.cdm_report.{proofs.Widths.left_text, specs.Columns.left_in}
use Rattle.cdm_view.specs.Why.{name_or_dash}
use Rattle.cdm_shift.{proofs.Columns.{left_five, left_three}, specs.Lines.place_told}
use Rattle.cdm_shift.proofs.text.push_place.Goals as goal

pub returns : goal.returns
unfolding place_told
returns c =
    let name = left_text c.text-name.result.now c.text-name.ensures.ascii c.text-name.ensures.short in
    let runway = left_three c.name_text-runway.result.now c.name_text-runway.ensures.ascii (c.name_text-runway.ensures.short (omega arith)) in
    let stand = left_five c.name_text-stand.result.now c.name_text-stand.ensures.ascii (c.name_text-stand.ensures.short (omega arith)) in
    let last = append-nil (left_in 5 (name_or_dash c.args.row.now.stand)) in
    rw last (rw (
      c.laid_out.ensures,
      c.laid_out-2.ensures,
      c.laid_out-3.ensures,
      name,
      runway,
      stand,
      c.text-name.ensures.value,
      c.name_text-runway.ensures.value,
      c.name_text-stand.ensures.value,
      c.column-tsat.ensures.day,
      c.column-tsat.ensures.minute,
    ) at c.write.ensures.bytes)
