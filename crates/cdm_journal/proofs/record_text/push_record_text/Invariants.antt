use Rattle.std.proofs.Common.{◌≡◌, ◌++◌, take}
use Rattle.csv.specs.Records.{fields_of}
use Rattle.cdm_journal.specs.Journal.{record_text}
use Rattle.cdm_journal.proofs.record_text.push_record_text.Given as goal

abbrev pub invariant-loop-place : goal.invariant-loop-place
invariant-loop-place l = l.text.items ≡ l.fn.text.items ++ record_text (take l.place (fields_of l.row))
