-- The inputs that are opened for a run, and what the run makes of what they give.
use Rattle.std.specs.Prelude.{◌≡◌, ℕ, Bool, false, List, [], Option, Some}
use Rattle.std.specs.Option.{option_copied}
use Rattle.cdm_files.specs.declared.common_fault.Input.{Input}
use Rattle.cdm_files.specs.declared.common_fault.Input.TheVariants.{Airport, Feed}
use Rattle.cdm_feed.specs.Inputs.{third_input}
use Rattle.cdm_feed.specs.Made.{HaveOne, IsMade}
use Rattle.cdm_feed.specs.declared.asked.Asked.{Asked}
use Rattle.cdm_feed.specs.declared.counted.Counted.{Counted}
use Rattle.cdm_command.specs.declared.command.DayFiles.{DayFiles}

-- what was opened at a path, or is empty where there is none: as which input, whether a read of it failed, and the bytes that its reads gave
pub record OpenedFile : Type 0 where
  pub path : Option (List ℕ)
  pub input : Input
  pub failed : Bool
  pub given : List ℕ

-- the file of a path, opened as an input, of which nothing was read yet
abbrev pub unread : Option (List ℕ) → Input → OpenedFile
unread path input = record { path = path; input = input; failed = false; given = [] }

-- the file of this path was opened as this input
abbrev pub IsOpenedAt : Option (List ℕ) → Input → OpenedFile → Type 0
IsOpenedAt path input file = (file.path ≡ path) × (file.input ≡ input)

-- each file of a day was opened as the input that it is to what is asked
pub record AreOpened (files : DayFiles) (asked : Asked) (airport feed third : OpenedFile) : Type 0 where
  pub is_airport : IsOpenedAt (Some files.airport.now) Airport airport
  pub is_feed : IsOpenedAt (Some files.feed.now) Feed feed
  pub is_third : IsOpenedAt (option_copied files.third) (third_input asked) third

-- a text of which this holds is the one that is made, for what is asked, of the bytes that three files gave
pub record IsMadeOf (asked : Asked) (airport feed third : OpenedFile) (counted : Counted) (IsWritten : List ℕ → Type 0) : Type 0 where
  pub text : List ℕ
  pub is_written : IsWritten text
  pub is_made : IsMade asked airport.given feed.given third.given text counted
  pub is_one : HaveOne asked airport.given feed.given third.given
