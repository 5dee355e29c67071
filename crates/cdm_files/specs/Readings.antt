-- What becomes of the inputs that a run reads.
use Rattle.std.specs.Prelude.{◌≡◌, ◌≤◌, ◌+◌, ◌⊎◌, ⊤, ℕ, Bool, true, false, List, [], length, Option, Some, IfSome}
use Rattle.std.specs.Io.KnownBytes.{Consumes, IsAtEnd}
use Rattle.cdm_files.specs.Device.{Passes, Wrapped}
use Rattle.cdm_files.specs.Input.{input_limit}
use Rattle.cdm_files.specs.declared.common_fault.Input.{Input}
use Rattle.cdm_files.specs.declared.common_fault.Input.TheVariants.{Scenarios}

-- an input: its name, what its reader had left before a run, what it has left after it, whether it failed, which bytes
-- its reads gave, and that it is as it was
pub record Reading : Type 1 where
  pub name : Input
  pub before : Option (List ℕ)
  pub after : Option (List ℕ)
  pub failed : Bool
  pub Gave : List ℕ → Type 0
  pub IsUnread : Type 0

-- the input of this name whose reader, wrapped in a device, was this before a run and is that after it
abbrev pub reading : {T : Type 0} → Input → (T → Option (List ℕ)) → Wrapped T → Wrapped T → Reading
reading name remaining old new =
    record { name = name; before = remaining old.inner; after = remaining new.inner; failed = new.failed; Gave = Passes old new; IsUnread = new ≡ old }

-- an input that isn't read: it has no byte, and was read to its end
abbrev pub no_input : Reading
no_input = record { name = Scenarios; before = Some []; after = Some []; failed = false; Gave = λ given. given ≡ []; IsUnread = ⊤ }

-- the number of bytes that the reader has given is so
abbrev pub Gives : (ℕ → Type 0) → Reading → Type 0
Gives Count r = (given : List ℕ) × r.Gave given × Consumes r.before r.after given × Count (length given)

-- no read of the input failed, and it isn't too long as far as it was read
abbrev pub IsUnfailed : Reading → Type 0
IsUnfailed r = (r.failed ≡ false) × Gives (λ n. n ≤ input_limit) r

-- the input was read to its end
pub record IsRead (r : Reading) : Type 0 where
  pub unfailed : IsUnfailed r
  pub ended : IsAtEnd r.after

-- it is the input of this name; a read of it failed, and before it the input wasn't too long
abbrev pub IsFailed : Input → Reading → Type 0
IsFailed name r = (r.name ≡ name) × (r.failed ≡ true) × Gives (λ n. n ≤ input_limit) r

-- it is the input of this name; no read of it failed, and it has given the first byte past the limit
abbrev pub IsTooLong : Input → Reading → Type 0
IsTooLong name r = (r.name ≡ name) × (r.failed ≡ false) × Gives (λ n. n ≡ input_limit + 1) r

-- all three inputs were read to their ends
abbrev pub AreRead : Reading → Reading → Reading → Type 0
AreRead a s t = IsRead a × IsRead s × IsRead t

-- it holds of one of three inputs; those before it, in the order in which they are read, were read, and those after it
-- were not
abbrev pub HoldsFirst : Reading → Reading → Reading → (Reading → Type 0) → Type 0
HoldsFirst a s t Holds = (Holds a × s.IsUnread × t.IsUnread) ⊎ (IsRead a × ((Holds s × t.IsUnread) ⊎ (IsRead s × Holds t)))

-- it holds of the bytes of three inputs, where their readers tell those that they have left
abbrev pub IfTold : Option (List ℕ) → Option (List ℕ) → Option (List ℕ) → (List ℕ → List ℕ → List ℕ → Type 0) → Type 0
IfTold a s t Holds = IfSome a (λ x. IfSome s (λ y. IfSome t (Holds x y)))

-- it holds of some bytes of three inputs, which are those that their readers have left, where these tell them
pub record OfBytes (a s t : Option (List ℕ)) (Holds : List ℕ → List ℕ → List ℕ → Type 0) : Type 0 where
  pub airport : List ℕ
  pub second : List ℕ
  pub third : List ℕ
  pub of_airport : IfSome a (λ all. airport ≡ all)
  pub of_second : IfSome s (λ all. second ≡ all)
  pub of_third : IfSome t (λ all. third ≡ all)
  pub holds : Holds airport second third

-- all three inputs were read to their ends, and it holds of the bytes that their readers gave, which are those that the readers had left
abbrev pub OfRead : Reading → Reading → Reading → (List ℕ → List ℕ → List ℕ → Type 0) → Type 0
OfRead a s t Holds = AreRead a s t × OfBytes a.before s.before t.before (λ x y z. a.Gave x × s.Gave y × t.Gave z × Holds x y z)

-- what passed in a run: the bytes that the readers of its three inputs gave, and those that its writer took, of which this holds
pub record Passed (a s t w : List ℕ → Type 0) (Holds : List ℕ → List ℕ → List ℕ → List ℕ → Type 0) : Type 0 where
  pub airport : List ℕ
  pub second : List ℕ
  pub third : List ℕ
  pub written : List ℕ
  pub from_airport : a airport
  pub from_second : s second
  pub from_third : t third
  pub to_writer : w written
  pub holds : Holds airport second third written
