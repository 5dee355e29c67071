use Rattle.cdm_table.{proofs.Words.{◌≡◌, take, flat_map}, specs.ComparisonJson.change_line}
use Rattle.cdm_table.proofs.comparison_json.change_lines.Given as goal

abbrev pub invariant-loop-standing : goal.invariant-loop-standing
invariant-loop-standing l =
    l.text.items ≡ flat_map (change_line l.sides.day l.sides.before.now l.sides.after.now) (take l.standing-index l.changed)
