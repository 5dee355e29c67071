-- What a run reads.
use Rattle.cdm_files.specs.declared.common_fault.Input.{Input}
use Rattle.cdm_files.specs.declared.common_fault.Input.TheVariants.{Scenarios, NextAirport}
use Rattle.cdm_feed.specs.declared.asked.Asked.{Asked}
use Rattle.cdm_feed.specs.declared.asked.Asked.TheVariants.{Day, Check, Carry}

-- the input that is read after the airport file and the feed
abbrev pub third_input : Asked → Input
third_input (Day text) = Scenarios
third_input (Check paths format) = Scenarios
third_input (Carry text) = NextAirport
