-- What a stop may leave of the journal and its mark on the disk.
use Rattle.std.specs.Prelude.{◌≡◌, ◌⊎◌, ⊤, ℕ, Bool, true, List, [], ◌∷◌, ◌++◌, Option, None, Some}
use Rattle.cdm_port.specs.Event.{Event}
use Rattle.cdm_port.specs.Event.Event.{Appended, Marked, Read, Renamed, Synced}
use Rattle.cdm_port.specs.Stop.{IsPrefix}

-- the journal: what may be left of it, each time any text from a first one up to a second; as it is written; and whether it is
-- marked as served, where the disk is known to have it so
pub record Disk : Type 0 where
  pub texts : List (List ℕ × List ℕ)
  pub written : List ℕ
  pub mark : Option Bool

-- a journal that is on the disk as it is
abbrev pub found : Bool → List ℕ → Disk
found marked bytes = record { texts = (bytes, bytes) ∷ []; written = bytes; mark = Some marked }

-- the mark that may be written now, and that the disk may not have yet
abbrev pub may_be_made : Option Bool → Option Bool
may_be_made (Some true) = Some true
may_be_made mark = None

-- the journal after one event. What is read need not be on the disk, so what might have been left before still may. A write
-- adds any first part of its bytes behind all that is written. Behind a sync the journal is on the disk as it is written, and the
-- mark may be made.
abbrev pub disk_with : Disk → Event → Disk
disk_with disk (Read bytes) = record disk { texts = (bytes, bytes) ∷ disk.texts; written = bytes }
disk_with disk (Renamed bytes) = record disk { texts = (bytes, bytes) ∷ disk.texts; written = bytes }
disk_with disk (Appended bytes) = record disk { texts = (disk.written, disk.written ++ bytes) ∷ disk.texts; written = disk.written ++ bytes }
disk_with disk Synced = record { texts = (disk.written, disk.written) ∷ []; written = disk.written; mark = may_be_made disk.mark }
disk_with disk Marked = record disk { mark = Some true }
disk_with disk other = disk

-- the journal after some events
abbrev pub disk_after : Disk → List Event → Disk
disk_after disk [] = disk
disk_after disk (event ∷ events) = disk_after (disk_with disk event) events

-- the mark may be found so
abbrev pub MayBeMarked : Option Bool → Bool → Type 0
MayBeMarked None marked = ⊤
MayBeMarked (Some is) marked = marked ≡ is

-- the text is one of these
abbrev pub IsAmong : List (List ℕ × List ℕ) → List ℕ → Type 0
IsAmong [] left = ⊥
IsAmong (text ∷ texts) left = (IsPrefix text.0 left × IsPrefix left text.1) ⊎ IsAmong texts left

-- a stop may leave the journal so: with this mark and this text
abbrev pub MayBeLeft : Disk → Bool → List ℕ → Type 0
MayBeLeft disk marked left = MayBeMarked disk.mark marked × IsAmong disk.texts left
