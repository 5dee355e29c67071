-- What the faults say that every run can have.
use Rattle.std.specs.Prelude.{◌≡◌, ⊤, ℕ, List, IfSome, Err}
use Rattle.cdm_files.specs.AirportFile.{airport_in}
use Rattle.cdm_files.specs.Readings.{AreRead, HoldsFirst, IsFailed, IsTooLong, IsUnfailed, Reading}
use Rattle.cdm_files.specs.declared.common_fault.CommonFault.{CommonFault}
use Rattle.cdm_files.specs.declared.common_fault.CommonFault.TheVariants as common

-- the first fault that every run can have: three inputs are read in their order, then the records of the airport file are asked,
-- then the text is made, and then, where all this is good, it is written. Want of memory may come anywhere before the
-- writing, but not in place of a failed read or of an input that is too long.
abbrev pub IsFirstCommonFault : Reading → Reading → Reading → Type 0 → CommonFault → Type 0
IsFirstCommonFault a s t Good (common.Read name) = HoldsFirst a s t (IsFailed name)
IsFirstCommonFault a s t Good (common.TooLong name) = HoldsFirst a s t (IsTooLong name)
IsFirstCommonFault a s t Good (common.Airport n word) = AreRead a s t × IfSome a.before (λ airport. airport_in airport ≡ Err (n, word))
IsFirstCommonFault a s t Good common.Memory = IsUnfailed a × IsUnfailed s × IsUnfailed t
IsFirstCommonFault a s t Good common.Write = AreRead a s t × Good

-- why an input is not read to its end
abbrev pub IsInputFault : Reading → CommonFault → Type 0
IsInputFault r (common.Read name) = IsFailed name r
IsInputFault r (common.TooLong name) = IsTooLong name r
IsInputFault r common.Memory = IsUnfailed r
IsInputFault r fault = ⊥

-- why three inputs are not read to their ends
abbrev pub IsFirstInputFault : Reading → Reading → Reading → CommonFault → Type 0
IsFirstInputFault a s t (common.Airport number word) = ⊥
IsFirstInputFault a s t common.Write = ⊥
IsFirstInputFault a s t fault = IsFirstCommonFault a s t ⊥ fault

-- why an airport file makes no airport
abbrev pub IsAirportFault : List ℕ → CommonFault → Type 0
IsAirportFault airport (common.Airport number word) = airport_in airport ≡ Err (number, word)
IsAirportFault airport common.Memory = ⊤
IsAirportFault airport fault = ⊥
