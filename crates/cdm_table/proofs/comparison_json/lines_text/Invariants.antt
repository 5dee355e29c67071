use Rattle.cdm_table.{proofs.Words.{◌≡◌, take, flat_map}, specs.ComparisonJson.summary_line}
use Rattle.cdm_table.proofs.comparison_json.lines_text.Given as goal

abbrev pub invariant-loop-line : goal.invariant-loop-line
invariant-loop-line l = l.text.items ≡ flat_map summary_line (take l.line-index l.lines)
