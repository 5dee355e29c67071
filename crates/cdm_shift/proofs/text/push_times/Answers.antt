use Rattle.cdm_report.proofs.Widths.{right_number}
use Rattle.cdm_shift.specs.Lines.{times_told}
use Rattle.cdm_shift.proofs.text.push_times.Goals as goal

pub returns : goal.returns
unfolding times_told
returns c =
    rw (
      c.laid_out.ensures,
      right_number 4 c.unwrap_or-delay.result,
      c.unwrap_or-delay.ensures,
      c.cause_or_dash-cause.ensures,
      c.column-tobt.ensures.day,
      c.column-tobt.ensures.minute,
      c.column-ctot.ensures.day,
      c.column-ctot.ensures.minute,
      c.column-ttot.ensures.day,
      c.column-ttot.ensures.minute,
    ) at c.writeln.ensures.bytes
