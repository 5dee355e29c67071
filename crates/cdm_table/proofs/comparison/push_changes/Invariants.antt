use Rattle.cdm_table.{proofs.Words.{◌≡◌, ◌++◌, take, flat_map, string_bytes}, specs.Comparison.change_lines}
use Rattle.cdm_table.proofs.comparison.push_changes.Given as goal

abbrev pub invariant-loop-standing : goal.invariant-loop-standing
invariant-loop-standing l = string_bytes l.text ≡ string_bytes l.initial.text ++ flat_map (change_lines l.day l.before) (take l.standing-index l.changed)
