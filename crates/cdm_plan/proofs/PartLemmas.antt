-- The plans of the runways, in some order, make the plan of the day.
use Rattle.std.proofs.Common.{◌≡◌, ℕ, zero, suc, ◌+◌, ◌≤◌, ◌<◌, List, ◌∷◌, ◌++◌, refl, sym, subst, arith, Bor, map, length, length-append}
use Rattle.std.proofs.{Common.{sum_by, get_or, set, [], rules}, lemmas.List.Concat.length-flat_map, lemmas.Slice.Zip.AllZip-long}
use Rattle.cdm_plan.proofs.ListWords.{length-map, All, AllZip, IsDistinct, flat_map, swap, IsPermutation, All-cons, All-head, All-nil}
use Rattle.cdm_plan.proofs.ListWords.{All-tail, IsPermutation-keeps, IsPermutation-refl, IsPermutation-swap, IsPermutation-sym}
use Rattle.cdm_plan.proofs.ListWords.{IsPermutation-trans, length_permutation, sum_by-IsPermutation, sum_by-add}
use Rattle.cdm_plan.proofs.PlanWords.{DayValues, same_name, Flight, RunwayRules, TaxiTimes, Slot, IsSequence, Plan, RunwayPlan, AimResult}
use Rattle.cdm_plan.proofs.PlanWords.{BlockedFlight, AreAims, HasParts, IsPlanOf, early_in, fixed_on, targets_in, targets_on}
use Rattle.cdm_plan.proofs.PlacingLemmas.{placed, placing_of}
use Rattle.cdm_plan.proofs.PlanningLemmas.{blocked_early, few_names, made_named, once, shows_made, stands_in, targets_of}
use Rattle.cdm_sequence.proofs.NameLemmas.{shown}

-- Lists in another order.

module _ {X Y : Type 0} (R : X → Y → Type 0) where
  AllZip-at : (xs : List X) (ys : List Y) (i : ℕ) (d : X) (e : Y) → i < length xs → AllZip R xs ys → R (get_or xs i d) (get_or ys i e)
  AllZip-at [] ys i d e less all = absurd (omega arith)
  AllZip-at (x ∷ xs) [] i d e less all = absurd all
  AllZip-at (x ∷ xs) (y ∷ ys) zero d e less all = all.0
  AllZip-at (x ∷ xs) (y ∷ ys) (suc i) d e less all = AllZip-at xs ys i d e (omega arith) all.1

  AllZip-set : (xs : List X) (ys : List Y) (i : ℕ) (x : X) (y : Y) → R x y → AllZip R xs ys → AllZip R (set xs i x) (set ys i y)
  AllZip-set [] [] i x y here all = tt
  AllZip-set (u ∷ xs) (v ∷ ys) zero x y here all = (here, all.1)
  AllZip-set (u ∷ xs) (v ∷ ys) (suc i) x y here all = (all.0, AllZip-set xs ys i x y here all.1)
  AllZip-set _ _ i x y here all = absurd all

  AllZip-swap : (xs : List X) (ys : List Y) (i j : ℕ) → i < length xs → j < length xs → AllZip R xs ys → AllZip R (swap xs i j) (swap ys i j)
  AllZip-swap [] ys i j p q all = absurd (omega arith)
  AllZip-swap (x ∷ xs) [] i j p q all = absurd all
  AllZip-swap (x ∷ xs) (y ∷ ys) i j p q all =
      AllZip-set (set (x ∷ xs) i (get_or (x ∷ xs) j x)) (set (y ∷ ys) i (get_or (y ∷ ys) j y)) j (get_or (x ∷ xs) i x) (get_or (y ∷ ys) i y)
      (AllZip-at (x ∷ xs) (y ∷ ys) i x y p all)
      (AllZip-set (x ∷ xs) (y ∷ ys) i (get_or (x ∷ xs) j x) (get_or (y ∷ ys) j y) (AllZip-at (x ∷ xs) (y ∷ ys) j x y q all) all)

  -- what goes with the elements of a list goes, in another order, with those of the list in another order
  pub AllZip-reordered : (xs us : List X) (ys : List Y) → IsPermutation xs us → AllZip R xs ys → (vs : List Y) × AllZip R us vs × IsPermutation vs ys
  AllZip-reordered xs us ys same all =
      let found = IsPermutation-keeps xs (λ (l : List X). (vs : List Y) × AllZip R l vs × IsPermutation ys vs) (ys, all, IsPermutation-refl ys) step us same in
      (found.0, found.1, IsPermutation-sym ys found.0 found.2)
    where
      step : (l : List X) (i j : ℕ) → i < length l → j < length l → (vs : List Y) × AllZip R l vs × IsPermutation ys vs
          → (vs : List Y) × AllZip R (swap l i j) vs × IsPermutation ys vs
      step l i j p q found =
          let vs = found.0 in
          let long : length vs ≡ length l = AllZip-long R l vs found.1 in
          let moved = IsPermutation-swap vs (swap vs i j) i j (omega arith) (omega arith) refl in
          (swap vs i j, AllZip-swap l vs i j p q found.1, IsPermutation-trans ys vs (swap vs i j) found.2 moved)

-- what goes with lent values goes with the values
pub AllZip-lent : {X Y : Type 0} (R : X → Y → Type 0) (xs : List (Bor X)) (ys : List Y) → AllZip (λ x y. R x.now y) xs ys → AllZip R (map (λ x. x.now) xs) ys
AllZip-lent R [] [] all = tt
AllZip-lent R (x ∷ xs) (y ∷ ys) all = (all.0, AllZip-lent R xs ys all.1)
AllZip-lent R _ _ all = absurd all

-- and what holds of all that values give holds of what each gives
pub All-given_by : {X Y : Type 0} (h : X → Y) (P : Y → Type 0) (xs : List X) → All P (map h xs) → All (λ x. P (h x)) xs
All-given_by h P [] all = All-nil (λ x. P (h x))
All-given_by h P (x ∷ xs) all = All-cons (λ x. P (h x)) x xs (All-head P (h x) (map h xs) all) (All-given_by h P xs (All-tail P (h x) (map h xs) all))

-- The parts of a plan.

-- a plan has no more flights than its parts
pub few_joined : (early : List BlockedFlight) (made ordered : List RunwayPlan) (blocked : List BlockedFlight) (most : ℕ)
    → IsPermutation made ordered → IsPermutation (early ++ flat_map (λ p. p.blocked) ordered) blocked
    → sum_by (λ p. length p.slots + length p.blocked) made + length early ≤ most → sum_by (λ p. length p.slots) ordered + length blocked ≤ most
few_joined early made ordered blocked most same others few =
    let moved = sum_by-IsPermutation (λ (p : RunwayPlan). length p.slots + length p.blocked) made ordered same in
    let split = sum_by-add (λ (p : RunwayPlan). length p.slots) (λ p. length p.blocked) ordered in
    let count = length_permutation (early ++ flat_map (λ p. p.blocked) ordered) blocked others in
    let parts = length-append early (flat_map (λ p. p.blocked) ordered) in
    let flat = length-flat_map (λ (p : RunwayPlan). p.blocked) ordered in
    omega arith

-- and the parts have at most as many flights as there are
pub few_parts : (times : TaxiTimes) (values : DayValues) (fs : List Flight) (runways : List RunwayRules) (made plans : List RunwayPlan)
    → AllZip (λ r p. IsSequence r (fixed_on r.name fs) (targets_on r.name (targets_of fs times values)) p) runways made → IsPermutation made plans
    → IsDistinct same_name (map (λ r. r.name) runways)
    → sum_by (λ p. length p.slots + length p.blocked) plans + length (blocked_early fs times values) ≤ length fs
few_parts times values fs runways made plans each same own =
    let names = sym (made_named (λ r. fixed_on r fs) (λ r. targets_on r (targets_of fs times values)) runways made each) in
    let rest = map (λ (b : BlockedFlight). b.name) (blocked_early fs times values) in
    let all = once times values fs made (subst (IsDistinct same_name) names own) (shows_made times values fs runways made each) in
    let few = few_names (λ (f : Flight). f.name) fs (stands_in times values fs made) (flat_map shown made ++ rest) all in
    let moved = sum_by-IsPermutation (λ (p : RunwayPlan). length p.slots + length p.blocked) made plans same in
    let sizes : sum_by (λ p. length (shown p)) made ≡ sum_by (λ p. length p.slots + length p.blocked) made = λ i. sum_by (λ p. shown_length p i) made in
    let parts = length-append (flat_map shown made) rest in
    let flat = length-flat_map shown made in
    let long = length-map (blocked_early fs times values) (λ (b : BlockedFlight). b.name) in
    omega arith
  where
    shown_length : (p : RunwayPlan) → length (shown p) ≡ length p.slots + length p.blocked
    shown_length p = search (rules, length-append, length-map)

-- plans that were made runway by runway make the day's plan
pub runways_make : (times : TaxiTimes) (values : DayValues) (fs : List Flight) (runways : List RunwayRules) (aims : List AimResult)
    (made : List RunwayPlan) (plan : Plan) → AreAims fs times values aims → IsDistinct same_name (map (λ r. r.name) runways)
    → AllZip (λ r p. IsSequence r (fixed_on r.name fs) (targets_on r.name (targets_in aims)) p) runways made → plan.clock ≡ values.clock
    → HasParts (early_in fs aims) made plan → IsPlanOf fs times values runways plan
runways_make times values fs runways aims made plan are own all clock parts =
    let fixed : List ℕ → List Slot = λ r. fixed_on r fs in
    let placing = placing_of fixed (targets_in aims) runways made all in
    (placing, aims, record { aimed = are; clock = clock; made = made; sequences = placed fixed (targets_in aims) runways made own all; parts = parts })
