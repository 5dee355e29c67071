use Rattle.std.proofs.Common.{◌≡◌, ◌+◌, length}
use Rattle.cdm_files.specs.Records.{records_of}
use Rattle.cdm_check.proofs.lines.record_count.Given as goal

abbrev pub invariant-records : goal.invariant-records
invariant-records l = l.count + length l.reader ≡ length (records_of l.fn.text)

abbrev pub decreases-records : goal.decreases-records
decreases-records l = length l.reader
