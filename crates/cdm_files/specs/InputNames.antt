-- The names that faults give to inputs.
use Rattle.std.specs.Prelude.{ℕ, List, codes}
use Rattle.cdm_files.specs.declared.common_fault.Input.{Input}
use Rattle.cdm_files.specs.declared.common_fault.Input.TheVariants.{Airport, Feed, Scenarios, NextAirport, Feed1, Feed2}

abbrev pub input_name : Input → List ℕ
input_name Airport = codes "AIRPORT"
input_name Feed = codes "FEED"
input_name Scenarios = codes "SCENARIOS"
input_name NextAirport = codes "NEXT_AIRPORT"
input_name Feed1 = codes "FEED1"
input_name Feed2 = codes "FEED2"
