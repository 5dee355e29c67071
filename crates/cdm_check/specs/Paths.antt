-- The files of a check, by the paths that its lines tell.
use Rattle.std.specs.Prelude.{ℕ, List, [], unwrap_or}
use Rattle.std.specs.Option.{option_copied}
use Rattle.cdm_kinds.specs.declared.format.Format.{Format}
use Rattle.cdm_check.specs.Check.{IsCheck, counts_in}
use Rattle.cdm_check.specs.Findings.{File}
use Rattle.cdm_check.specs.declared.counts.CheckCounts.{CheckCounts}
use Rattle.cdm_check.specs.declared.paths.FilePaths.{FilePaths}

abbrev pub airport_file : FilePaths → List ℕ → File
airport_file paths bytes = record { path = paths.airport.now; bytes = bytes }

abbrev pub feed_file : FilePaths → List ℕ → File
feed_file paths bytes = record { path = paths.feed.now; bytes = bytes }

-- without a scenario file there is no record of one, and no line
abbrev pub scenario_file : FilePaths → List ℕ → File
scenario_file paths bytes = record { path = unwrap_or (option_copied paths.scenarios) []; bytes = bytes }

-- the text is that of a check of the files with these bytes
abbrev pub IsCheckAt : Format → FilePaths → List ℕ → List ℕ → List ℕ → List ℕ → Type 0
IsCheckAt format paths airport feed scenarios = IsCheck format (airport_file paths airport) (feed_file paths feed) (scenario_file paths scenarios)

-- what such a check counts
abbrev pub counts_at : FilePaths → List ℕ → List ℕ → List ℕ → CheckCounts
counts_at paths airport feed scenarios = counts_in (airport_file paths airport) (feed_file paths feed) (scenario_file paths scenarios)
