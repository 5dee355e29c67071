-- What has happened where a run stopped.
use Rattle.std.specs.Prelude.{◌≡◌, ◌⊎◌, ℕ, List, [], ◌∷◌, ◌++◌, length, drop}
use Rattle.cdm_port.specs.Event.{Event}
use Rattle.cdm_port.specs.Event.Event.{Appended, Replied}

-- bytes begin with this part
abbrev pub IsPrefix : List ℕ → List ℕ → Type 0
IsPrefix part bytes = (rest : List ℕ) × (bytes ≡ part ++ rest)

-- a write that stopped in its midst: its first bytes alone
abbrev pub IsTorn : Event → List Event → Type 0
IsTorn (Appended bytes) done = (part : List ℕ) × IsPrefix part bytes × (done ≡ Appended part ∷ [])
IsTorn (Replied bytes) done = (part : List ℕ) × IsPrefix part bytes × (done ≡ Replied part ∷ [])
IsTorn other done = ⊥

-- done is what has happened of the whole at some moment: its first events, of which the last may be torn
abbrev pub IsStopOf : List Event → List Event → Type 0
IsStopOf done [] = done ≡ []
IsStopOf done (event ∷ whole) = (done ≡ []) ⊎ (IsTorn event done ⊎ ((rest : List Event) × (done ≡ event ∷ rest) × IsStopOf rest whole))

-- from old to new, some of the whole has happened
abbrev pub Stops : List Event → List Event → List Event → Type 0
Stops old whole new = (done : List Event) × IsStopOf done whole × (new ≡ old ++ done)

-- what has happened since
abbrev pub since : List Event → List Event → List Event
since old new = drop (length old) new
