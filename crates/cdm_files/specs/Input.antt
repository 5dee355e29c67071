-- The limit of an input, and how its read fails.
use Rattle.std.specs.Prelude.{ℕ, Bool, true, false, Result, Ok, Err}
use Rattle.cdm_files.specs.declared.input.InputFault.{InputFault}
use Rattle.cdm_files.specs.declared.input.InputFault.TheVariants as fault

-- the most bytes that an input may have (local profile)
abbrev pub input_limit : ℕ
input_limit = 8388608

-- the input's reader failed
abbrev pub is_failed_input : {T : Type 0} → Result T InputFault → Bool
is_failed_input (Ok input) = false
is_failed_input (Err fault.Failed) = true
is_failed_input (Err fault.TooLong) = false
is_failed_input (Err fault.Memory) = false
