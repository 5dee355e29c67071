use Rattle.cdm_table.{specs.Comparison.line_text, proofs.NameColumn.left_in-sixteen}
use Rattle.cdm_table.proofs.comparison.push_line.Goals as goal

pub returns : goal.returns
unfolding line_text
returns c =
    let name = left_in-sixteen c.name_text-name.result.now c.name_text-name.ensures.ascii c.name_text-name.ensures.short in
    rw (c.laid_out.ensures, name, c.name_text-name.ensures.value) at c.writeln.ensures.bytes
