use Rattle.std.{proofs.Common.{◌≡◌, length}, specs.List.list_all}
use Rattle.cdm_files.specs.Records.{records_of}
use Rattle.cdm_check.specs.Findings.{has_no_role}
use Rattle.cdm_check.proofs.hints.have_no_role.Given as goal

abbrev pub invariant-records : goal.invariant-records
invariant-records l = list_all has_no_role l.reader ≡ list_all has_no_role (records_of l.fn.text)

abbrev pub decreases-records : goal.decreases-records
decreases-records l = length l.reader
