-- Why a journal is not taken.
use Rattle.std.specs.Prelude.{◌≡◌, ⊤, ℕ, List, ◌∷◌}
use Rattle.cdm_flight.specs.declared.word.RefusalWord.{RefusalWord}
use Rattle.cdm_files.specs.declared.file_fault.FileFault.{FileFault}
use Rattle.cdm_files.specs.declared.file_fault.FileFault.TheVariants as file

-- the fault tells the first of the refused records by its number and its word, or is want of memory
abbrev pub TellsFirst : List (ℕ × RefusalWord) → FileFault → Type 0
TellsFirst refused (file.Refused number word) = (others : List (ℕ × RefusalWord)) × (refused ≡ (number, word) ∷ others)
TellsFirst refused file.Memory = ⊤
