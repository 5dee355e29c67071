-- What stops a run or a served day.
use Rattle.std.specs.Prelude.{◌≡◌, ◌+◌, ◌⊎◌, ⊤, ℕ, Bool, true, List, length}
use Rattle.cdm_flight.specs.Journal.{AirportRows}
use Rattle.cdm_files.specs.Input.{input_limit}
use Rattle.cdm_files.specs.declared.common_fault.CommonFault.TheVariants as common
use Rattle.cdm_files.specs.declared.common_fault.Input.{Input}
use Rattle.cdm_files.specs.declared.common_fault.Input.TheVariants.{Airport, Feed}
use Rattle.cdm_files.specs.declared.run_error.RunError.{RunError}
use Rattle.cdm_files.specs.declared.run_error.RunError.TheVariants as error
use Rattle.cdm_feed.specs.Inputs.{third_input}
use Rattle.cdm_feed.specs.Made.{HaveText, IsUnmade}
use Rattle.cdm_feed.specs.declared.asked.Asked.{Asked}
use Rattle.cdm_port.specs.Event.{Event}
use Rattle.cdm_serve.specs.Faults.{IsServeFault}
use Rattle.cdm_fault.specs.declared.fault.Fault.{Fault}
use Rattle.cdm_fault.specs.declared.fault.Fault.TheVariants as fault
use Rattle.cdm_ask.specs.Opening.{OpenedFile}

-- the file of this input can't be opened, or there was no memory
abbrev pub IsUnopened : Input → Fault → Type 0
IsUnopened input (fault.CannotOpen named file) = named ≡ input
IsUnopened input fault.NoMemory = ⊤
IsUnopened input other = ⊥

-- one of the files of what is asked can't be opened, or there was no memory
abbrev pub IsUnopenedOf : Asked → Fault → Type 0
IsUnopenedOf asked f = IsUnopened Airport f ⊎ (IsUnopened Feed f ⊎ IsUnopened (third_input asked) f)

-- one of three files is so
abbrev pub OneIs : (OpenedFile → Type 0) → OpenedFile → OpenedFile → OpenedFile → Type 0
OneIs Holds a f t = Holds a ⊎ (Holds f ⊎ Holds t)

-- it is the input of this name, and a read of it failed, or it gave the first byte past the limit
abbrev pub IsFailedAs : Input → OpenedFile → Type 0
IsFailedAs name file = (file.input ≡ name) × (file.failed ≡ true)

abbrev pub IsTooLongAs : Input → OpenedFile → Type 0
IsTooLongAs name file = (file.input ≡ name) × (length file.given ≡ input_limit + 1)

-- why what is asked isn't made of what three files gave: a file's fault, what the bytes that they gave say, a writer that failed on the text of
-- these bytes, or want of memory
abbrev pub IsStoppedBy : Asked → OpenedFile → OpenedFile → OpenedFile → RunError → Type 0
IsStoppedBy asked a f t (error.Common (common.Read name)) = OneIs (IsFailedAs name) a f t
IsStoppedBy asked a f t (error.Common (common.TooLong name)) = OneIs (IsTooLongAs name) a f t
IsStoppedBy asked a f t (error.Common common.Memory) = ⊤
IsStoppedBy asked a f t (error.Common common.Write) = HaveText asked a.given f.given t.given
IsStoppedBy asked a f t e = IsUnmade asked a.given f.given t.given e

-- it is a fault of serving, told where it happened
abbrev pub IsServeStop : AirportRows → Bool → List Event → Fault → Type 0
IsServeStop g marked done (fault.Serve e) = IsServeFault g marked done e
IsServeStop g marked done other = ⊥
