-- Files whose first faulty record refuses them.
use Rattle.std.specs.Prelude.{◌≡◌, ⊤, ℕ, ◌+◌, List, [], ◌∷◌, Result, Ok, Err}
use Rattle.std.specs.Result.{result_map_both}
use Rattle.cdm_flight.specs.declared.word.RefusalWord.{RefusalWord}
use Rattle.cdm_files.specs.Fields.{and_then}
use Rattle.cdm_files.specs.declared.file_fault.FileFault.{FileFault}
use Rattle.cdm_files.specs.declared.file_fault.FileFault.TheVariants as file

-- what the records of a file make, one after another, the first of them with this number: each says something,
-- which is taken after the others; else the number and the word of the first faulty record
unfoldable pub after_records : {S R : Type 0} → (List (List ℕ) → Result R RefusalWord) → (S → R → Result S RefusalWord) → S → ℕ → List (List (List ℕ)) → Result S (ℕ × RefusalWord)
after_records says takes s number [] = Ok s
after_records says takes s number (fields ∷ later) =
    and_then (result_map_both (λ next. next) (λ word. (number, word)) (and_then (says fields) (takes s))) (λ next. after_records says takes next (number + 1) later)

-- the fault tells the first faulty record of a file, or is want of memory
abbrev pub IsFaultOf : {S : Type 0} → Result S (ℕ × RefusalWord) → FileFault → Type 0
IsFaultOf r (file.Refused number word) = r ≡ Err (number, word)
IsFaultOf r file.Memory = ⊤
