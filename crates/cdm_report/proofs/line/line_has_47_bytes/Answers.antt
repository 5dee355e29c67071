use Rattle.cdm_report.proofs.Lengths.{length-flight_line}
use Rattle.cdm_report.proofs.line.line_has_47_bytes.Goals as goal

pub returns : goal.returns
returns c = λ day.
    let name = rw c.text-name.ensures.value at c.text-name.ensures.short in
    rw (← c.slot.view_is) (length-flight_line day _ name c.slot.invariant.taxi_range c.slot.invariant.delay_range)
