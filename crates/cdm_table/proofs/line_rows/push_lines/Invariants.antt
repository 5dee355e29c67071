use Rattle.std.proofs.Common.{◌≡◌, ◌++◌, map, take}
use Rattle.cdm_csv.specs.Rows.{csv_text}
use Rattle.cdm_table.specs.Comparison.{line_fields}
use Rattle.cdm_table.proofs.line_rows.push_lines.Given as goal

abbrev pub invariant-loop-line : goal.invariant-loop-line
invariant-loop-line l = l.text.items ≡ l.initial.text.items ++ csv_text (map line_fields (take l.line-index l.lines))
