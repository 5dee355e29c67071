-- Why a served day ends before its input does.
use Rattle.std.specs.Prelude.{◌≡◌, ◌≤◌, ◌^◌, ⊤, ℕ, Bool, true, false, List, ◌∷◌, count_by, Option, Some, Result, Err}
use Rattle.cdm_files.specs.FeedDay.{refusals_in}
use Rattle.cdm_files.specs.declared.common_fault.CommonFault.TheVariants as common
use Rattle.cdm_flight.specs.Journal.{AirportRows}
use Rattle.cdm_flight.specs.declared.word.RefusalWord.{RefusalWord}
use Rattle.cdm_port.specs.Event.{Event}
use Rattle.cdm_port.specs.Event.Event.{Broken, Line}
use Rattle.cdm_port.specs.declared.fault.PortFault.{PortFault}
use Rattle.cdm_serve.specs.Served.{reading, start_text}
use Rattle.cdm_serve.specs.declared.fault.ServeError.{ServeError}
use Rattle.cdm_serve.specs.declared.fault.ServeError.TheVariants as error

-- the first refused record of the journal, which was read, and nothing else happened
abbrev pub IsFirstRefused : AirportRows → Bool → List Event → ℕ → RefusalWord → Type 0
IsFirstRefused g marked done number word = (bytes : List ℕ) × (others : List (ℕ × RefusalWord))
    × (done ≡ reading marked bytes) × (refusals_in g (start_text marked bytes) ≡ (number, word) ∷ others)

-- a line of the input was heard
abbrev pub is_line : Event → Bool
is_line (Line line) = true
is_line Broken = true
is_line other = false

-- why something ends: want of memory may come at any moment, and a fault of the port, a refused record of the journal or too many records where
-- this holds
abbrev pub IsFaultOf : Type 0 → (ℕ → RefusalWord → Type 0) → Type 0 → ServeError → Type 0
IsFaultOf port refused many (error.Common common.Memory) = ⊤
IsFaultOf port refused many (error.Common other) = ⊥
IsFaultOf port refused many (error.Journal number word) = refused number word
IsFaultOf port refused many (error.Port fault) = port
IsFaultOf port refused many error.TooMany = many

-- why serving the day of an airport ends, where this has happened: a fault of the port may come at any moment
abbrev pub IsServeFault : AirportRows → Bool → List Event → ServeError → Type 0
IsServeFault g marked done = IsFaultOf ⊤ (IsFirstRefused g marked done) (2 ^ 32 ≤ count_by is_line done)

-- the fault of a port after this answer: the one that it tells, and else that from before
abbrev pub fault_told : {T : Type 0} → Option PortFault → Result T ServeError → Option PortFault
fault_told before (Err (error.Port fault)) = Some fault
fault_told before other = before
