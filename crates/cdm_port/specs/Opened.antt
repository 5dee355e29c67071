-- What is known of an open journal of the file system.
use Rattle.std.specs.Prelude.{◌≡◌, ℕ, List, [], ◌∷◌, ◌++◌, true, nat_lt, Option, None, Some, IfSome, option_map, string_bytes}
use Rattle.cdm_port.specs.Calls.{Held, HeldLock}
use Rattle.cdm_port.specs.Disk.{FileCalls, number, opening_lock}
use Rattle.cdm_port.specs.declared.disk.FileCall.TheVariants.{Absent, Found, Locked, Opened, Seen, Stood}
use Rattle.cdm_port.specs.declared.disk.OpenFile.{OpenFile}
use Rattle.cdm_port.specs.declared.disk.Sight.{Sight}
use Rattle.cdm_port.specs.declared.lock.Lock.{Lock}
use Rattle.cdm_port.specs.declared.opened.OpenJournal.{OpenJournal}

abbrev pub lock_of : Lock → HeldLock
lock_of lock = record { path = string_bytes lock.path; file = number lock.file; made = lock.made; marked = lock.marked }

abbrev pub held_of : {R : Type 0} → OpenJournal R → Held
held_of journal = record {
  path = string_bytes journal.path;
  fresh = string_bytes journal.fresh;
  file = option_map number journal.file;
  own = journal.own;
  mode = journal.mode;
  lock = lock_of journal.lock;
}

-- more calls were made
pub record HasMore (before after : FileCalls) : Type 0 where
  pub more : FileCalls
  pub did : after ≡ before ++ more

-- an open file is locked and looked at, and then it is looked for at its path and found there
abbrev pub locking : List ℕ → OpenFile → Sight → FileCalls
locking path file sight = (Locked (number file), []) ∷ (Seen (number file) sight, []) ∷ (Found (Some sight.standing), path) ∷ []

-- the lock's file was opened or made, and locked; it is the one at its path, and the journal is marked as served where it has bytes
pub record IsTaken (before after : FileCalls) (lock : Lock) : Type 0 where
  pub till : FileCalls
  pub earlier : HasMore before till
  pub sight : Sight
  pub did : after ≡ till ++ (opening_lock (string_bytes lock.path) (Some (lock.file, lock.made)) ++ locking (string_bytes lock.path) lock.file sight)
  pub marked : lock.marked ≡ nat_lt 0 sight.standing.length

-- what stands at the journal's path is opened and looked at, or nothing stands there
abbrev pub finding : List ℕ → Option (OpenFile × Sight) → FileCalls
finding path None = (Absent, path) ∷ []
finding path (Some (file, sight)) = (Stood, path) ∷ (Opened (number file), path) ∷ (Seen (number file) sight, []) ∷ []

-- a journal was opened: at the end its lock was taken, and then its file was opened, or nothing stood at its path
pub record IsOpened {R : Type 0} (journal : OpenJournal R) : Type 0 where
  pub before : FileCalls
  pub till : FileCalls
  pub locked : IsTaken before till journal.lock
  pub found : Option (OpenFile × Sight)
  pub did : journal.disk.done.notes ≡ till ++ finding (string_bytes journal.path) found
  pub file : journal.file ≡ option_map (λ f. f.0) found
  pub own : journal.own ≡ option_map (λ f. f.1.standing) found
  pub mode : journal.mode ≡ option_map (λ f. f.1.mode) found
  pub regular : IfSome found (λ f. f.1.is_file ≡ true)
