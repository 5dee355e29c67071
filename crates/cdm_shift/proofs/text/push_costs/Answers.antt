use Rattle.cdm_report.proofs.Widths.{left_text}
use Rattle.cdm_shift.specs.Lines.{costs_line}
use Rattle.cdm_shift.proofs.text.push_costs.Goals as goal

pub returns : goal.returns
unfolding costs_line
returns c =
    let name = left_text c.args.name.now c.requires.ascii c.requires.short in
    rw (c.laid_out.ensures, name) at c.writeln.ensures.bytes
