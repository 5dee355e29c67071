-- What a device wraps, and which of its calls failed.
use Rattle.std.specs.Prelude.{◌≡◌, ◌++◌, ℕ, Bool, true, ◌==◌, ◌&&◌, not, List, [], length, take, flat_map, Result, Ok, Err}

-- what a device wraps, whether a call on it failed since it was made, and the bytes that have passed since then: those
-- that its reads gave, or those that its writes took
pub record Wrapped (T : Type 0) : Type 0 where
  pub inner : T
  pub failed : Bool
  pub passed : List ℕ

-- the bytes of all notes, one after another
abbrev pub bytes_in : {H : Type 0} → List (H × List ℕ) → List ℕ
bytes_in notes = flat_map (λ note. note.1) notes

-- these bytes passed between two moments
abbrev pub Passes : {T : Type 0} → Wrapped T → Wrapped T → List ℕ → Type 0
Passes old new bytes = new.passed ≡ old.passed ++ bytes

-- what a call passed of a text: nothing, if it failed
abbrev pub part_of : {E : Type 0} → Result ℕ E → List ℕ → List ℕ
part_of (Ok n) text = take n text
part_of (Err e) text = []

-- a write fails, or takes no byte of a text that isn't empty
abbrev pub is_failed_write : {E : Type 0} → Result ℕ E → List ℕ → Bool
is_failed_write (Ok n) text = (n == 0) && not (length text == 0)
is_failed_write (Err e) text = true
