-- What was passed over stays so, whatever else is taken.
use Rattle.cdm_runway.proofs.Words.{common_steps, ◌≡◌, ◌⊎◌, ℕ, ◌<◌, ◌≤◌, ◌/◌, false, List, ◌++◌, get_or, sym, ◌∙◌, inl, inr, arith, rules}
use Rattle.cdm_runway.{proofs.Words.{All-contains, Contains-append_left, Contains-get_or, Group}, specs.Rules.RunwayRules}
use Rattle.cdm_runway.specs.Room.{cap_at, held_in_cell, meets, taken_by, AllClosed, IsFree, IsSpaced}
use Rattle.cdm_runway.specs.{Passed.{ArePassed, IsIn, IsPassed, NoneFree, NoneSpaced, passed_of, with_passed}, declared.load.Taken.Taken}
use Rattle.cdm_runway.specs.declared.passed.{Passed.Passed, PassedOver.PassedOver, Stretch.Stretch}
use Rattle.std.proofs.lemmas.Bool.{false≢true}
use Rattle.cdm_flight.specs.declared.group.Group.TheVariants.{Light, Medium, Heavy}

module _ (r : RunwayRules) (taken more : List Taken) (group : Group) where
  -- whoever meets none of more flights meets none of them
  spaced_before : (k : ℕ) → IsSpaced r (taken ++ more) group k → IsSpaced r taken group k
  spaced_before k spaced = λ i d l.
      All-contains (λ t. meets (taken_by r group k) t ≡ false) (taken ++ more) (get_or taken i d) spaced
      (Contains-append_left taken more (get_or taken i d) (Contains-get_or taken i d l))

  free_before : (k : ℕ) → IsFree r (taken ++ more) group k → IsFree r taken group k
  free_before k free = grind (arith, common_steps)

  passed_before : (p : Passed) → IsPassed r taken group p → IsPassed r (taken ++ more) group p
  passed_before p was = search (rules, free_before, spaced_before)

-- more is taken
pub passed_more : (r : RunwayRules) (taken more : List Taken) (p : PassedOver) → ArePassed r taken p → ArePassed r (taken ++ more) p
passed_more r taken more p was = λ group. passed_before r taken more group (passed_of p group) (was group)

-- what was passed over for one group is noted
pub passed_noted : (r : RunwayRules) (taken : List Taken) (p : PassedOver) (group : Group) (x : Passed) → ArePassed r taken p → IsPassed r taken group x
    → ArePassed r taken (with_passed p group x)
passed_noted r taken p Light x was is Light = is
passed_noted r taken p Light x was is Medium = was Medium
passed_noted r taken p Light x was is Heavy = was Heavy
passed_noted r taken p Medium x was is Light = was Light
passed_noted r taken p Medium x was is Medium = is
passed_noted r taken p Medium x was is Heavy = was Heavy
passed_noted r taken p Heavy x was is Light = was Light
passed_noted r taken p Heavy x was is Medium = was Medium
passed_noted r taken p Heavy x was is Heavy = is

module _ (r : RunwayRules) (taken : List Taken) (group : Group) where
  -- a stretch that was joined with minutes of its kind
  pub unfree_joined : (s t : Stretch) (from to : ℕ) → ((k : ℕ) → IsIn t k → IsIn s k ⊎ (from ≤ k) × (k < to)) → NoneFree r taken group s.from s.to
      → NoneFree r taken group from to → NoneFree r taken group t.from t.to
  unfree_joined s t from to joined was more k begun before = elim (joined k (record { begun = begun; before = before })) [
    | inl i ↦ was k i.begun i.before
    | inr i ↦ more k i.0 i.1
  ]

  pub met_joined : (s t : Stretch) (from to : ℕ) → ((k : ℕ) → IsIn t k → IsIn s k ⊎ (from ≤ k) × (k < to)) → NoneSpaced r taken group s.from s.to
      → NoneSpaced r taken group from to → NoneSpaced r taken group t.from t.to
  met_joined s t from to joined was more k begun before = elim (joined k (record { begun = begun; before = before })) [
    | inl i ↦ was k i.begun i.before
    | inr i ↦ more k i.0 i.1
  ]

  -- minutes that were passed over lengthen those before them
  unfree_past : (s : Stretch) (from number past : ℕ) → ((k : ℕ) → number ≤ k → k < past → IsIn s k) → NoneFree r taken group s.from s.to
      → NoneFree r taken group from number → NoneFree r taken group from past
  unfree_past s from number past over was so_far k begun before = search rules

  met_past : (s : Stretch) (from number past : ℕ) → ((k : ℕ) → number ≤ k → k < past → IsIn s k) → NoneSpaced r taken group s.from s.to
      → NoneSpaced r taken group from number → NoneSpaced r taken group from past
  met_past s from number past over was so_far k begun before = search rules

  -- one kind of minutes after another
  met_then : (from m to : ℕ) → NoneSpaced r taken group from m → NoneSpaced r taken group m to → NoneSpaced r taken group from to
  met_then from m to first second k begun before = search rules

  unfree_then : (from m to : ℕ) → NoneFree r taken group from m → NoneFree r taken group m to → NoneFree r taken group from to
  unfree_then from m to first second k begun before = search rules

  -- no minute is free where the runway is closed or the flight meets another
  unfree_met : (from to : ℕ) → NoneSpaced r taken group from to → NoneFree r taken group from to
  unfree_met from to met k begun before free = met k begun before free.is_open free.is_spaced

  met_closed : (from to : ℕ) → AllClosed r from to → NoneSpaced r taken group from to
  met_closed from to closed k begun before is_open spaced = false≢true (sym is_open ∙ closed k begun before)

  -- the search for a minute at which the flight meets no other goes on
  pub met_step : (s : Stretch) (from number m next past : ℕ) → NoneSpaced r taken group s.from s.to → NoneSpaced r taken group from number
      → AllClosed r number m → ((k : ℕ) → m ≤ k → k < next → IsSpaced r taken group k → ⊥) → ((k : ℕ) → next ≤ k → k < past → IsIn s k)
      → NoneSpaced r taken group from past
  met_step s from number m next past was so_far closed met over = search (rules, met_past, met_then, met_closed)

  -- no minute of a full cell is free
  unfree_cell : (m next : ℕ) → cap_at r m ≤ held_in_cell r.cell taken m → ((k : ℕ) → m ≤ k → k < next → k / r.cell ≡ m / r.cell)
      → NoneFree r taken group m next
  unfree_cell m next full same k begun before free = search rules

  -- the search for a free minute goes on
  pub unfree_step : (s : Stretch) (from number m next past : ℕ) → NoneFree r taken group s.from s.to → NoneFree r taken group from number
      → NoneSpaced r taken group number m → cap_at r m ≤ held_in_cell r.cell taken m → ((k : ℕ) → m ≤ k → k < next → k / r.cell ≡ m / r.cell)
      → ((k : ℕ) → next ≤ k → k < past → IsIn s k) → NoneFree r taken group from past
  unfree_step s from number m next past was so_far met full same over = search (rules, unfree_past, unfree_then, unfree_met, unfree_cell)
