use Rattle.std.proofs.Common.{◌≡◌, ◌+◌, ◌≤◌, length}
use Rattle.cdm_files.specs.{Files.after_records, ScenarioFile.{scenarios_in, with_line}, ScenarioRecords.scenario_line_of}
use Rattle.cdm_files.proofs.scenario_file.read_scenarios.Given as goal

abbrev pub invariant-records : goal.invariant-records
invariant-records l = record {
  count : l.number + length l.reader ≤ length l.fn.text;
  all : scenarios_in l.fn.day l.fn.text ≡ after_records (scenario_line_of l.fn.day) with_line l.scenarios.items (l.number + 1) l.reader;
}

abbrev pub decreases-records : goal.decreases-records
decreases-records l = length l.reader
