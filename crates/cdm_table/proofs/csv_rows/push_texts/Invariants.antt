use Rattle.std.proofs.Common.{◌≡◌, ◌++◌, take}
use Rattle.cdm_table.specs.inner.OwnRows.{own_text}
use Rattle.cdm_table.proofs.csv_rows.push_texts.Given as goal

abbrev pub invariant-loop-row : goal.invariant-loop-row
invariant-loop-row l = l.text.items ≡ l.initial.text.items ++ own_text (take l.row-index l.rows)
