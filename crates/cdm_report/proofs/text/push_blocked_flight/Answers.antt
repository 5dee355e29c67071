use Rattle.cdm_report.{specs.Report.blocked_line, proofs.Widths.left_text}
use Rattle.cdm_report.proofs.text.push_blocked_flight.Goals as goal

pub returns : goal.returns
unfolding blocked_line
returns c =
    let name = left_text c.text-name.result.now c.text-name.ensures.ascii c.text-name.ensures.short in
    rw (c.laid_out.ensures, name, c.text-name.ensures.value) at c.writeln.ensures.bytes
