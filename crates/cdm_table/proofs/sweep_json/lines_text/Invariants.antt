use Rattle.cdm_table.{proofs.Words.{◌≡◌, take, flat_map}, specs.Sweep.sweep_json_line}
use Rattle.cdm_table.proofs.sweep_json.lines_text.Given as goal

abbrev pub invariant-loop-line : goal.invariant-loop-line
invariant-loop-line l = l.text.items ≡ flat_map (sweep_json_line l.day) (take l.line-index l.lines)
