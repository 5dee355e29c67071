use Rattle.cdm_table.{proofs.Words.{◌≡◌, ◌++◌, take, flat_map, string_bytes}, specs.Comparison.line_text}
use Rattle.cdm_table.proofs.comparison.push_lines.Given as goal

abbrev pub invariant-loop-line : goal.invariant-loop-line
invariant-loop-line l = string_bytes l.text ≡ string_bytes l.initial.text ++ flat_map line_text (take l.line-index l.lines)
