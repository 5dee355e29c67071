use Rattle.cdm_table.{specs.Sweep.sweep_line, proofs.NameColumn.left_in-sixteen}
use Rattle.cdm_table.proofs.sweep.push_line.Goals as goal

pub returns : goal.returns
unfolding sweep_line
returns c =
    let name = left_in-sixteen c.name_text-name.result.now c.name_text-name.ensures.ascii c.name_text-name.ensures.short in
    rw (c.laid_out.ensures, name, c.name_text-name.ensures.value) at c.writeln.ensures.bytes
