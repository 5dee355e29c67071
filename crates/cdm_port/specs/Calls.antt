-- What a journal's calls do, by what is known of its files.
use Rattle.std.specs.Prelude.{◌≡◌, ◌+◌, ◌-◌, ◌<◌, ◌^◌, ◌&&◌, ⊤, not, min, ℕ, ℤ, Bool, true, false, List, [], ◌∷◌, ◌++◌, length, codes, flat_map}
use Rattle.std.specs.Prelude.{Option, None, Some, IsNone, if◌then◌else◌}
use Rattle.cdm_port.specs.Disk.{FileCalls, looking_for}
use Rattle.cdm_port.specs.declared.disk.FileCall.TheVariants.{Cleared, Made, NameSynced, Read, Removed, RenamedFrom, RenamedTo, Seen, Synced, Written}
use Rattle.cdm_port.specs.declared.disk.Sight.{Sight}
use Rattle.cdm_port.specs.declared.disk.Standing.{Standing}

-- the lock of a journal: its path, the number of its open file, whether this process has made it, and whether it marks the journal as served
pub record HeldLock : Type 0 where
  pub path : List ℕ
  pub file : ℤ
  pub made : Bool
  pub marked : Bool

-- a journal: its path, that of the new file beside it, the number of its open file, if it is there, which file that is and how long, who may
-- read and write it, and its lock
pub record Held : Type 0 where
  pub path : List ℕ
  pub fresh : List ℕ
  pub file : Option ℤ
  pub own : Option Standing
  pub mode : Option ℕ
  pub lock : HeldLock

-- these calls are the first of those
abbrev pub Begins : FileCalls → FileCalls → Type 0
Begins [] whole = ⊤
Begins (call ∷ part) [] = ⊥
Begins (call ∷ part) (first ∷ whole) = (call ≡ first) × Begins part whole

-- the journal was looked for at its path, and it was the file that is known, as long as is known, or not
abbrev pub looking : Held → Bool → FileCalls
looking held is_own = looking_for held.own held.path is_own

-- so many bytes were asked for, and these read
abbrev pub reading : Option ℤ → ℕ → List ℕ → FileCalls
reading None room bytes = []
reading (Some file) room bytes = (Read file room, bytes) ∷ []

-- one read after another, each with what it asked for and what it gave
abbrev pub readings : Option ℤ → List (ℕ × List ℕ) → FileCalls
readings file parts = flat_map (λ part. reading file part.0 part.1) parts

abbrev pub bytes_read : List (ℕ × List ℕ) → List ℕ
bytes_read parts = flat_map (λ part. part.1) parts

-- some bytes of the journal were read, and nothing else was done
pub record HasRead (file : Option ℤ) (before after : FileCalls) (bytes : List ℕ) : Type 0 where
  pub parts : List (ℕ × List ℕ)
  pub did : after ≡ before ++ readings file parts
  pub gave : bytes ≡ bytes_read parts
  pub none : IsNone file → bytes ≡ []

-- all bytes of the journal were read: the last read asked for some, and gave none
pub record HasReadAll (file : Option ℤ) (before after : FileCalls) (bytes : List ℕ) : Type 0 where
  pub till : FileCalls
  pub begun : HasRead file before till bytes
  pub room : ℕ
  pub some : 0 < room
  pub did : after ≡ till ++ reading file room []

-- these bytes were written at the journal's end
abbrev pub writing : Option ℤ → List ℕ → FileCalls
writing None bytes = []
writing (Some file) bytes = (Written file, bytes) ∷ []

-- one write after another
abbrev pub writings : Option ℤ → List (List ℕ) → FileCalls
writings file parts = flat_map (writing file) parts

-- these bytes were written at the journal's end, in one write after another, and nothing else was done
pub record HasWritten (file : Option ℤ) (before after : FileCalls) (bytes : List ℕ) : Type 0 where
  pub parts : List (List ℕ)
  pub did : after ≡ before ++ writings file parts
  pub took : bytes ≡ flat_map (λ part. part) parts
  pub none : IsNone file → bytes ≡ []

-- the journal was looked for, and only where it was there these bytes were written at its end
pub record HasAppended (held : Held) (before after : FileCalls) (bytes : List ℕ) (is_done : Bool) : Type 0 where
  pub is_own : Bool
  pub written : HasWritten held.file (before ++ looking held is_own) after bytes
  pub other : is_own ≡ false → bytes ≡ []
  pub done : is_done ≡ true → is_own ≡ true

-- the journal is longer by so many bytes
abbrev pub grown : ℕ → Option Standing → Option Standing
grown count None = None
grown count (Some own) = Some (record own { length = min (own.length + count) (2 ^ 64 - 1) })

-- its length is a number of 64 bits
abbrev pub IsSized : Option Standing → Type 0
IsSized None = ⊤
IsSized (Some own) = own.length < 2 ^ 64

-- what was written to the journal was put on the disk
abbrev pub syncing : Option ℤ → FileCalls
syncing None = []
syncing (Some file) = (Synced file, []) ∷ []

-- the name of the journal was put on the disk
abbrev pub naming : Held → FileCalls
naming held = (NameSynced, held.path) ∷ []

-- the lock's file is removed where this process has made it and it has no mark
abbrev pub giving_up : HeldLock → FileCalls
giving_up lock = if lock.made && not lock.marked then (Cleared, lock.path) ∷ [] else []

-- the mark is written to the lock's file, and then put on the disk
abbrev pub marking : HeldLock → FileCalls
marking lock = (Written lock.file, codes "served\n") ∷ (Synced lock.file, []) ∷ []

-- the mark was begun: the first of its calls were made
pub record IsMarkBegun (lock : HeldLock) (before after : FileCalls) : Type 0 where
  pub part : FileCalls
  pub first : Begins part (marking lock)
  pub did : after ≡ before ++ part

-- a new file beside the journal, with the mode of the journal, is made of these bytes and put on the disk
abbrev pub preparing : Held → ℤ → Sight → List ℕ → FileCalls
preparing held new sight bytes =
    (Removed, held.fresh) ∷ (Made new held.mode, held.fresh) ∷ (Written new, bytes) ∷ (Synced new, []) ∷ (Seen new sight, []) ∷ []

-- the new file is renamed over the journal
abbrev pub renaming : Held → FileCalls
renaming held = (RenamedFrom, held.fresh) ∷ (RenamedTo, held.path) ∷ []

-- a new file of these bytes was made and put on the disk, the journal was looked for and found, and the new file was renamed over it; it is
-- the journal from then on
pub record IsRenamed (before after : FileCalls) (held new : Held) (bytes : List ℕ) : Type 0 where
  pub file : ℤ
  pub sight : Sight
  pub did : after ≡ before ++ (preparing held file sight bytes ++ (looking held true ++ renaming held))
  pub holds : new ≡ record held { file = Some file; own = Some (record sight.standing { length = length bytes }) }

-- the first of these calls were made, without the rename
pub record IsRenameBegun (before after : FileCalls) (held : Held) (bytes : List ℕ) : Type 0 where
  pub file : ℤ
  pub sight : Sight
  pub is_own : Bool
  pub part : FileCalls
  pub first : Begins part (preparing held file sight bytes ++ looking held is_own)
  pub did : after ≡ before ++ part

-- and then the new file was cleared
pub record IsRenameStopped (before after : FileCalls) (held : Held) (bytes : List ℕ) : Type 0 where
  pub till : FileCalls
  pub begun : IsRenameBegun before till held bytes
  pub did : after ≡ till ++ (Cleared, held.fresh) ∷ []

-- a new file of these bytes was renamed over the journal, and the journal's name was put on the disk
pub record IsReplaced (before after : FileCalls) (held new : Held) (bytes : List ℕ) : Type 0 where
  pub till : FileCalls
  pub renamed : IsRenamed before till held new bytes
  pub did : after ≡ till ++ naming new

-- it wasn't renamed, and the journal was looked for
pub record IsReplaceStopped (before after : FileCalls) (held : Held) (bytes : List ℕ) : Type 0 where
  pub till : FileCalls
  pub stopped : IsRenameStopped before till held bytes
  pub is_own : Bool
  pub did : after ≡ till ++ looking held is_own
