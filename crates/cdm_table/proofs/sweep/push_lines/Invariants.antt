use Rattle.cdm_table.{proofs.Words.{◌≡◌, ◌++◌, take, flat_map, string_bytes}, specs.Sweep.sweep_line}
use Rattle.cdm_table.proofs.sweep.push_lines.Given as goal

abbrev pub invariant-loop-line : goal.invariant-loop-line
invariant-loop-line l = string_bytes l.text ≡ string_bytes l.initial.text ++ flat_map (sweep_line l.day) (take l.line-index l.lines)
