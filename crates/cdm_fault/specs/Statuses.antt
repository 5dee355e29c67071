-- The exit status of each fault, and of a run that has written its text.
-- 3 where an input is refused or doesn't know what is asked for, 1 where a file can't be opened, a device fails, memory
-- is short or the board gives a wrong answer, 2 where the words name no command, or a time of another day.
use Rattle.std.specs.Prelude.{ℕ, Bool, true, false, not, ◌==◌, ◌&&◌, if◌then◌else◌}
use Rattle.cdm_feed.specs.declared.counted.Counted.{Counted}
use Rattle.cdm_feed.specs.declared.counted.Counted.TheVariants as counted
use Rattle.cdm_files.specs.declared.common_fault.CommonFault.{CommonFault}
use Rattle.cdm_files.specs.declared.common_fault.CommonFault.TheVariants as common
use Rattle.cdm_files.specs.declared.run_error.RunError.TheVariants as run
use Rattle.cdm_live.specs.declared.live_error.LiveError.TheVariants as live
use Rattle.cdm_port.specs.declared.fault.PortFault.{PortFault}
use Rattle.cdm_port.specs.declared.fault.PortFault.TheVariants as port
use Rattle.cdm_serve.specs.declared.fault.ServeError.TheVariants as serve
use Rattle.cdm_command.specs.declared.command.CommandFault.{CommandFault}
use Rattle.cdm_command.specs.declared.command.CommandFault.TheVariants as command
use Rattle.cdm_fault.specs.declared.fault.Fault.{Fault}
use Rattle.cdm_fault.specs.declared.fault.Fault.TheVariants as fault

abbrev pub status_of_common : CommonFault → ℕ
status_of_common (common.Read input) = 1
status_of_common (common.TooLong input) = 3
status_of_common (common.Airport number word) = 3
status_of_common common.Memory = 1
status_of_common common.Write = 1

abbrev pub status_of_port : PortFault → ℕ
status_of_port port.JournalTooLong = 3
status_of_port other = 1

abbrev pub status_of_fault : Fault → ℕ
status_of_fault (fault.CannotOpen input file) = 1
status_of_fault fault.NoMemory = 1
status_of_fault (fault.ShortStack bytes) = 1
status_of_fault fault.OtherSteps = 2
status_of_fault (fault.Run (run.Common e)) = status_of_common e
status_of_fault (fault.Run (run.Scenario number word)) = 3
status_of_fault (fault.Run (run.NoFlight name)) = 3
status_of_fault (fault.Run (run.NotPlanned name status)) = 3
status_of_fault (fault.Run (run.NoRunway name)) = 3
status_of_fault (fault.Run (run.NoScenario name)) = 3
status_of_fault (fault.Run run.OtherDay) = 2
status_of_fault (fault.Run (run.Update name number word)) = 3
status_of_fault (fault.Run (run.NextAirport number word)) = 3
status_of_fault (fault.Run (run.NextDay days)) = 3
status_of_fault (fault.Live (live.Common e)) = status_of_common e
status_of_fault (fault.Live live.HistoryFull) = 3
status_of_fault (fault.Live live.Mismatch) = 1
status_of_fault (fault.CannotOpenJournal file) = 1
status_of_fault (fault.JournalNoFile path) = 1
status_of_fault (fault.JournalMissing path) = 3
status_of_fault (fault.JournalInUse path) = 1
status_of_fault (fault.Serve (serve.Common e)) = status_of_common e
status_of_fault (fault.Serve (serve.Journal number word)) = 3
status_of_fault (fault.Serve (serve.Port e)) = status_of_port e
status_of_fault (fault.Serve serve.TooMany) = 1

-- the exit status of a run that has written its text: 4 where a check refuses a record, where a person has to see to something before
-- the next day, and, if it is strict, where a day refuses a record of the feed or the feed has none
abbrev pub status_of_run : Bool → Counted → ℕ
status_of_run strict (counted.Check counts) = if counts.refused == 0 then 0 else 4
status_of_run true (counted.Day counts) = if (counts.refused == 0) && not (counts.accepted == 0) then 0 else 4
status_of_run false (counted.Day counts) = 0
status_of_run strict (counted.Carry needs_care) = if needs_care then 4 else 0

abbrev pub status_of_command_fault : CommandFault → ℕ
status_of_command_fault (command.Usage text) = 2
status_of_command_fault command.Memory = 1
