use Rattle.std.proofs.Common.{◌≡◌, ◌≤◌, ◌++◌, length, map}
use Rattle.cdm_files.specs.Parsing.{parse_of}
use Rattle.cdm_files.proofs.feed.read_stretch.Given as goal

abbrev pub invariant-records : goal.invariant-records
invariant-records l = record {
  spelled : map (parse_of l.day) l.initial.reader ≡ l.parsed.items ++ map (parse_of l.day) l.reader;
  count : length l.parsed.items ≤ l.most;
}

abbrev pub decreases-records : goal.decreases-records
decreases-records l = length l.reader
