-- What the system has done with the files of a journal.
use Rattle.std.specs.Prelude.{◌≡◌, ℕ, ℤ, List, [], ◌∷◌, ◌++◌, Bool, true, false, Option, None, Some, Result, Ok, Err}
use Rattle.std.specs.Fd.{file_raw_fd}
use Rattle.std.specs.IoError.{error_kind}
use Rattle.std.specs.declared.io.Error.{Error}
use Rattle.std.specs.declared.io.ErrorKind.{ErrorKind}
use Rattle.cdm_port.specs.declared.disk.Disk.{Disk}
use Rattle.cdm_port.specs.declared.disk.FileCall.{FileCall}
use Rattle.cdm_port.specs.declared.disk.FileCall.TheVariants.{Absent, Found, Made, Missed, Opened, Stood}
use Rattle.cdm_port.specs.declared.disk.OpenFile.{OpenFile}
use Rattle.cdm_port.specs.declared.disk.Standing.{Standing}

-- calls, each with its bytes or its path, the first of them first
abbrev pub FileCalls : Type 0
FileCalls = List (FileCall × List ℕ)

-- the number of an open file
abbrev pub number : OpenFile → ℤ
number opened = file_raw_fd opened.file

-- what was done before, and then what a call does that answers this; a call that failed has done nothing that is known
abbrev pub calls_after : {T E : Type 0} → FileCalls → (T → FileCalls) → Result T E → FileCalls
calls_after before does (Ok value) = before ++ does value
calls_after before does (Err error) = before

-- why the call that failed last has failed, after a call that answers this
abbrev pub kind_after : {T : Type 0} → Option ErrorKind → Result T Error → Option ErrorKind
kind_after before (Ok value) = before
kind_after before (Err error) = Some (error_kind error)

-- a call that answers this was made, and does these where it is `Ok`; else its error is kept
abbrev pub Did : {R T : Type 0} → Disk R → Disk R → (T → FileCalls) → Result T Error → Type 0
Did before after does answer = (after.done.notes ≡ calls_after before.done.notes does answer) × (after.fault ≡ kind_after before.fault answer)

-- it is told whether a regular file stands at a path
abbrev pub standing_there : List ℕ → Bool → FileCalls
standing_there path true = (Stood, path) ∷ []
standing_there path false = (Absent, path) ∷ []

-- a lock was made, for its owner alone, or opened; it may have been removed meanwhile
abbrev pub opening_lock : List ℕ → Option (OpenFile × Bool) → FileCalls
opening_lock path None = []
opening_lock path (Some (opened, true)) = (Made (number opened) (Some 384), path) ∷ []
opening_lock path (Some (opened, false)) = (Opened (number opened), path) ∷ []

-- the file at a path was looked for, and it was this one or not
abbrev pub looking_for : Option Standing → List ℕ → Bool → FileCalls
looking_for own path true = (Found own, path) ∷ []
looking_for own path false = (Missed own, path) ∷ []
