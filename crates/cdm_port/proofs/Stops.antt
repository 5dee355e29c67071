-- How stops of runs compose.
use Rattle.std.proofs.Common.{◌≡◌, ◌⊎◌, inl, inr, ℕ, List, [], ◌∷◌, ◌++◌, length, refl, sym, ◌∙◌, ap, subst, append_assoc}
use Rattle.std.proofs.lemmas.List.{drop_at}
use Rattle.cdm_port.specs.{Event.Event, Event.Event.{Appended, Replied}, Stop.{IsPrefix, IsStopOf, IsTorn, Stops, since}}

-- the front of a run
pub front : (done rest : List Event) → IsStopOf done (done ++ rest)
front [] [] = refl
front [] (event ∷ rest) = inl refl
front (event ∷ done) rest = inr (inr (done, refl, front done rest))

-- a stop of the front
pub longer : (done whole rest : List Event) → IsStopOf done whole → IsStopOf done (whole ++ rest)
longer done [] rest stop = subst (λ (d : List Event). IsStopOf d rest) (sym stop) (front [] rest)
longer done (event ∷ whole) rest (inl none) = inl none
longer done (event ∷ whole) rest (inr (inl torn)) = inr (inl torn)
longer done (event ∷ whole) rest (inr (inr later)) = inr (inr (later.0, later.1, longer later.0 whole rest later.2))

-- a stop behind the front
pub past : (before done whole : List Event) → IsStopOf done whole → IsStopOf (before ++ done) (before ++ whole)
past [] done whole stop = stop
past (event ∷ before) done whole stop = inr (inr (before ++ done, refl, past before done whole stop))

pub prefix_of : (a b c : List ℕ) → IsPrefix a b → IsPrefix b c → IsPrefix a c
prefix_of a b c ab bc = (ab.0 ++ bc.0, bc.1 ∙ ap (λ (l : List ℕ). l ++ bc.0) ab.1 ∙ append_assoc a ab.0 bc.0)

torn_of : (event : Event) (moment done : List Event) → IsTorn event done → IsStopOf moment done → (moment ≡ []) ⊎ IsTorn event moment
torn_of (Appended bytes) moment done torn stop =
    elim (subst (λ (d : List Event). IsStopOf moment d) torn.2 stop) [
      | inl none ↦ inl none
      | inr (inl again) ↦ inr (again.0, prefix_of again.0 torn.0 bytes again.1 torn.1, again.2)
      | inr (inr all) ↦ inr (torn.0, torn.1, all.1 ∙ ap (λ (l : List Event). Appended torn.0 ∷ l) all.2)
    ]
torn_of (Replied bytes) moment done torn stop =
    elim (subst (λ (d : List Event). IsStopOf moment d) torn.2 stop) [
      | inl none ↦ inl none
      | inr (inl again) ↦ inr (again.0, prefix_of again.0 torn.0 bytes again.1 torn.1, again.2)
      | inr (inr all) ↦ inr (torn.0, torn.1, all.1 ∙ ap (λ (l : List Event). Replied torn.0 ∷ l) all.2)
    ]
torn_of _ moment done torn stop = absurd torn

-- a moment before a stop is a stop
pub earlier : (moment done whole : List Event) → IsStopOf moment done → IsStopOf done whole → IsStopOf moment whole
earlier moment done [] first stop = subst (λ (d : List Event). IsStopOf moment d) stop first
earlier moment done (event ∷ whole) first (inl none) = inl (subst (λ (d : List Event). IsStopOf moment d) none first)
earlier moment done (event ∷ whole) first (inr (inl torn)) = elim (torn_of event moment done torn first) [ inl none ↦ inl none | inr again ↦ inr (inl again) ]
earlier moment done (event ∷ whole) first (inr (inr later)) =
    elim (subst (λ (d : List Event). IsStopOf moment d) later.1 first) [
      | inl none ↦ inl none
      | inr (inl torn) ↦ inr (inl torn)
      | inr (inr more) ↦ inr (inr (more.0, more.1, earlier more.0 later.0 whole more.2 later.2))
    ]

-- the first part is done, and of the next some
pub goes_on : (old mid new before part rest whole : List Event) → whole ≡ before ++ (part ++ rest) → mid ≡ old ++ before → Stops mid part new → Stops old whole new
goes_on old mid new before part rest whole is so_far stop = (
  before ++ stop.0,
  subst (λ (w : List Event). IsStopOf (before ++ stop.0) w) (sym is) (past before stop.0 (part ++ rest) (longer stop.0 part rest stop.1)),
  stop.2 ∙ ap (λ (l : List Event). l ++ stop.0) so_far ∙ append_assoc old before stop.0,
)

-- the first part is done
pub stops_behind : (old new before rest whole : List Event) → whole ≡ before ++ rest → new ≡ old ++ before → Stops old whole new
stops_behind old new before rest whole is so_far = (before, subst (λ (w : List Event). IsStopOf before w) (sym is) (front before rest), so_far)

-- what has happened since is what was added
pub since_is : (old new done : List Event) → new ≡ old ++ done → since old new ≡ done
since_is old new done is = ap (λ (l : List Event). since old l) is ∙ drop_at old done (length old) refl
