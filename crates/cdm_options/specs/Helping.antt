-- The records that help a flight, the best first.
use Rattle.std.specs.Prelude.{ℕ, Bool, true, false, not, ◌&&◌, ◌==◌, nat_lt, List, [], ◌∷◌, IsPermutation, IsSorted, filter, flat_map, length, slice_get, Option, None, Some, if◌then◌else◌}
use Rattle.std.specs.List.{list_any, range_with_len}
use Rattle.std.specs.Option.{option_map_or}
use Rattle.std.specs.Ordering.{nat_cmp, ordering_then}
use Rattle.std.specs.declared.cmp.Ordering.{Ordering}
use Rattle.cdm_flight.specs.declared.update.Update.{Update}
use Rattle.cdm_flight.specs.declared.update.Update.TheVariants.{Prio}
use Rattle.cdm_options.specs.declared.effect.Effect.{Effect}
use Rattle.cdm_options.specs.declared.effect.Effect.TheVariants.{Planned, Refused}
use Rattle.cdm_options.specs.declared.helping.Helping.{Helping}

-- a take-off is sooner than the one before, or the first that the flight gets
abbrev pub is_sooner : Option ℕ → ℕ → Bool
is_sooner before ttot = option_map_or (λ m. nat_lt ttot m) before true

-- a record that would do so much, if it helps a flight with this take-off before
abbrev pub helping_of : Option ℕ → ℕ → Update → Effect → List Helping
helping_of before place u (Planned (Some ttot) counts moved) =
    if is_sooner before ttot then record { place = place; update = u; ttot = ttot; counts = counts; moved = moved } ∷ [] else []
helping_of before place u effect = []

-- the same, if there is such a record
unfoldable pub helping_if : Option ℕ → ℕ → Option Update → Option Effect → List Helping
helping_if before place (Some u) (Some effect) = helping_of before place u effect
helping_if before place u effect = []

-- the same of the record at a place among those that are tried
abbrev pub helping_at : Option ℕ → List Update → List Effect → ℕ → List Helping
helping_at before updates effects k = helping_if before k (slice_get updates k) (slice_get effects k)

-- all that help
abbrev pub all_helping : Option ℕ → List Update → List Effect → List Helping
all_helping before updates effects = flat_map (helping_at before updates effects) (range_with_len 0 (length updates))

abbrev pub is_refused : Effect → Bool
is_refused (Refused word) = true
is_refused _ = false

-- What is told of them.

-- two records would do the same, as far as a line says it
abbrev pub says_same : Helping → Helping → Bool
says_same a b =
    (a.ttot == b.ttot) && (a.counts.delay == b.counts.delay) && (a.counts.greatest == b.counts.greatest) && (a.counts.late == b.counts.late)
    && (a.counts.blocked == b.counts.blocked) && (a.moved == b.moved)

-- the priority of a PRIO
abbrev pub priority_of : Update → Option ℕ
priority_of (Prio f p) = Some p
priority_of _ = None

-- the other is a PRIO with a larger number, and says the same
abbrev pub outdoes : ℕ → Helping → Helping → Bool
outdoes p h other = option_map_or (λ q. nat_lt p q && says_same other h) (priority_of other.update) false

abbrev pub is_outdone : List Helping → Helping → Bool
is_outdone all h = option_map_or (λ p. list_any (outdoes p h) all) (priority_of h.update) false

-- of PRIO records that say the same, the one with the largest number alone
abbrev pub told : List Helping → List Helping
told all = filter (λ h. not (is_outdone all h)) all

-- the flight's sooner take-off comes first, then fewer blocked flights, then less delay; then the place decides
abbrev pub help_cmp : Helping → Helping → Ordering
help_cmp a b =
    ordering_then (ordering_then (ordering_then
    (nat_cmp a.ttot b.ttot)
    (nat_cmp a.counts.blocked b.counts.blocked))
    (nat_cmp a.counts.delay b.counts.delay))
    (nat_cmp a.place b.place)

pub record IsRanking (helping ranked : List Helping) : Type 0 where
  pub all : IsPermutation helping ranked
  pub best_first : IsSorted help_cmp ranked
