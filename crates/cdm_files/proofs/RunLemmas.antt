-- Faults of a run, and what holds of its inputs.
use Rattle.std.proofs.{Common.{◌≡◌, ℕ, List, Option, Some, IfSome, sym, ap, subst, ◌∙◌}, lemmas.Option.IfSome_then}
use Rattle.cdm_files.specs.{AirportFile.airport_in, CommonFaults.{IsAirportFault, IsFirstCommonFault, IsFirstInputFault}}
use Rattle.cdm_files.specs.{Readings.{AreRead, IfTold, OfBytes, Reading}, declared.common_fault.CommonFault.CommonFault}
use Rattle.cdm_files.specs.declared.common_fault.CommonFault.TheVariants as common

-- a fault of the inputs is the first, whatever is asked of them
pub input_fault-first : (a s t : Reading) (Good : Type 0) (e : CommonFault) → IsFirstInputFault a s t e → IsFirstCommonFault a s t Good e
input_fault-first a s t Good (common.Airport number word) fault = absurd fault
input_fault-first a s t Good common.Write fault = absurd fault
input_fault-first a s t Good _ fault = fault

-- and so is a fault of the airport file, where they were read
pub airport_record-first : (a s t : Reading) (Good : Type 0) (airport : List ℕ) (e : CommonFault) → AreRead a s t
    → IfSome a.before (λ bytes. airport ≡ bytes) → IsAirportFault airport e → IsFirstCommonFault a s t Good e
airport_record-first a s t Good airport (common.Airport number word) read is fault =
    (read, IfSome_then a.before is (λ bytes same. sym (ap airport_in same) ∙ fault))
airport_record-first a s t Good airport common.Memory read is fault = (read.0.unfailed, read.1.unfailed, read.2.unfailed)
airport_record-first a s t Good airport _ read is fault = absurd fault

-- what is said of the bytes that were read is said of the inputs
pub of_both : (P : List ℕ → List ℕ → Type 0) (a s : Option (List ℕ)) (airport scenarios : List ℕ)
    → IfSome a (λ bytes. airport ≡ bytes) → IfSome s (λ bytes. scenarios ≡ bytes)
    → P airport scenarios → IfSome a (λ x. IfSome s (P x))
of_both P a s airport scenarios is also p =
    IfSome_then a is (λ x same. IfSome_then s also (λ y so. subst (λ (bytes : List ℕ). P bytes y) same (subst (P airport) so p)))

pub of_inputs : (P : List ℕ → List ℕ → List ℕ → Type 0) (a s t : Option (List ℕ)) (airport second third : List ℕ)
    → IfSome a (λ bytes. airport ≡ bytes) → IfSome s (λ bytes. second ≡ bytes) → IfSome t (λ bytes. third ≡ bytes)
    → P airport second third → IfTold a s t P
of_inputs P a s t airport second third as_airport as_second as_third p =
    IfSome_then a as_airport (λ x is. of_both (P x) s t second third as_second as_third (subst (λ (bytes : List ℕ). P bytes second third) is p))

pub of_told : {P Q : List ℕ → List ℕ → List ℕ → Type 0} (a s t : Option (List ℕ)) → OfBytes a s t P
    → ((x y z : List ℕ) → P x y z → Q x y z) → IfTold a s t Q
of_told {Q = Q} a s t of more =
    of_inputs Q a s t of.airport of.second of.third of.of_airport of.of_second of.of_third (more of.airport of.second of.third of.holds)

-- what holds of all bytes holds of those that readers have left
pub of_known : (P : List ℕ → List ℕ → List ℕ → Type 0) (a s t : Option (List ℕ)) → ((x y z : List ℕ) → P x y z) → IfTold a s t P
of_known P (Some x) (Some y) (Some z) p = p x y z
of_known P _ _ _ p = tt
