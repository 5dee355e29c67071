use Rattle.std.proofs.Common.{◌≡◌, ◌++◌, length}
use Rattle.cdm_journal.specs.Journal.{journal_text}
use Rattle.cdm_files.specs.Records.{records_of}
use Rattle.cdm_journal.proofs.record_text.own_lines.Given as goal

abbrev pub invariant-records : goal.invariant-records
invariant-records l = journal_text (records_of l.feed) ≡ l.text.items ++ journal_text l.reader

abbrev pub decreases-records : goal.decreases-records
decreases-records l = length l.reader
