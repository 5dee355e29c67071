-- Each flight of a day stands once: as a fixed flight or a target of one runway, or blocked early.
use Rattle.std.proofs.lemmas.{Grind.common_steps, Slice.Zip.AllZip-map}
use Rattle.std.proofs.Common.{Bor, ◌≡◌, ℕ, ◌+◌, ◌≤◌, Bool, true, false, not, cond, ◌||◌, List, ◌∷◌, ◌++◌, Option, None, Some, refl, sym}
use Rattle.std.proofs.Common.{◌∙◌, ap, [], subst, arith, map, filter, length, rules, IfSome, IsTrue, length-append}
use Rattle.std.proofs.lemmas.List.Filters.{length-filter_both}
use Rattle.cdm_plan.proofs.ListWords.{is_some, zip, All, All-cons, All-head, All-nil, All-tail, append_assoc, filter_map, flat_map}
use Rattle.cdm_plan.proofs.ListWords.{IsDistinct, AllByRecursion, IsPermutation, false_from_ne_true, false≢true, IsPermutation-append}
use Rattle.cdm_plan.proofs.ListWords.{IsPermutation-refl, IsPermutation-trans, IsPermutation-append_right, IsPermutation-middle}
use Rattle.cdm_plan.proofs.ListWords.{IsPermutation-map, IsPermutation-sym, IsDistinct-IsPermutation, IsDistinct-head, IsDistinct-tail}
use Rattle.cdm_plan.proofs.ListWords.{length-map, map-append, All-given, distinct_filter, filter_map-map, filter_map-filter, if_so}
use Rattle.cdm_plan.proofs.ListWords.{length_permutation, AllZip, filter_passes}
use Rattle.cdm_plan.proofs.PlanWords.{DayValues, same_name, Flight, is_planned, TaxiTimes, IsAim, aim_of, aim_is, aim_means, counts}
use Rattle.cdm_plan.proofs.PlanWords.{same_flips, same_is, Slot, fixed_slot, slot_by, flight_names, IsSequence, Target, AimResult}
use Rattle.cdm_plan.proofs.PlanWords.{BlockedFlight, early_in, gone_of, planned_of, target_in, targets_in, blocked_in, is_on, fixed_on}
use Rattle.cdm_plan.proofs.PlanWords.{targets_on, IsAimed, if_on, if_passes, target_for, CanSequence, RunwayRules, RunwayPlan, Ready, Early}
use Rattle.cdm_plan.{proofs.JournalFacts.some_named, specs.declared.aimed.Aimed.Aimed}
use Rattle.cdm_flight.specs.declared.flight.Status.{Status}
use Rattle.cdm_flight.specs.declared.flight.Status.TheVariants as status
use Rattle.cdm_sequence.{specs.Slots.is_fixed, proofs.NameLemmas.{all_shown, names_given, shown}}

-- Aims.

-- a flight with what it could have
unfoldable pub aimed : TaxiTimes → DayValues → Flight → Aimed
aimed times values f = record { name = f.name; aim = aim_of f times values }

-- the targets of the planned flights that can be sequenced
unfoldable pub targets_of : List Flight → TaxiTimes → DayValues → List Target
targets_of flights times values = filter_map (λ f. target_in (aim_of f times values)) (planned_of flights)

-- the planned flights that are blocked before the traffic of their runway is asked
unfoldable pub blocked_early : List Flight → TaxiTimes → DayValues → List BlockedFlight
blocked_early flights times values = filter_map (λ f. blocked_in f.name (aim_of f times values)) (planned_of flights)

-- what planned flights could have
abbrev pub aim_list : List Flight → TaxiTimes → DayValues → List AimResult
aim_list fs times values = map (λ f. aim_of f times values) (planned_of fs)

-- what goes together goes together in a weaker way
pub AllZip-weaker : {X Y : Type 0} (R S : X → Y → Type 0) → ((x : X) (y : Y) → R x y → S x y) → (xs : List X) (ys : List Y) → AllZip R xs ys → AllZip S xs ys
AllZip-weaker R S h [] [] all = tt
AllZip-weaker R S h (x ∷ xs) (y ∷ ys) all = (h x y all.0, AllZip-weaker R S h xs ys all.1)
AllZip-weaker R S h _ _ all = absurd all

-- the aims of flights are one list
pub aims_are : (times : TaxiTimes) (values : DayValues) (fs : List Flight) (aims : List AimResult) → AllZip (λ f a. IsAim f times values a) fs aims
    → map (λ f. aim_of f times values) fs ≡ aims
aims_are times values fs aims all =
    let same = AllZip-weaker (λ f a. IsAim f times values a) (λ f a. a ≡ aim_of f times values) (λ f a h. sym (aim_is f times values a h)) fs aims all in
    sym (AllZip-map (λ f. aim_of f times values) fs aims same)

pub aims_mean : (times : TaxiTimes) (values : DayValues) (fs : List Flight) → AllZip (λ f a. IsAim f times values a) fs (map (λ f. aim_of f times values) fs)
aims_mean times values [] = tt
aims_mean times values (f ∷ fs) = (aim_means f times values, aims_mean times values fs)

-- and so they are with the names
pub aimed_are : (times : TaxiTimes) (values : DayValues) (fs : List Flight) (aims : List Aimed) → AllZip (IsAimed times values) fs aims
    → aims ≡ map (aimed times values) fs
unfolding aimed
aimed_are times values fs aims all =
    AllZip-map (aimed times values) fs aims (AllZip-weaker (IsAimed times values) (λ f a. a ≡ aimed times values f)
    (λ f a h. λ i. record { name = h.name i; aim = sym (aim_is f times values a.aim h.aim) i }) fs aims all)

-- the targets among the aims, and the flights that are blocked early
pub targets-aims : (times : TaxiTimes) (values : DayValues) (fs : List Flight) → targets_in (aim_list fs times values) ≡ targets_of fs times values
unfolding targets_of
targets-aims times values fs = filter_map-map target_in (λ f. aim_of f times values) (planned_of fs)

zip-map : {Y : Type 0} (h : Flight → Y) (fs : List Flight) → zip fs (map h fs) ≡ map (λ f. (f, h f)) fs
zip-map h [] = refl
zip-map {Y} h (f ∷ fs) = ap (λ (xs : List (Flight × Y)). (f, h f) ∷ xs) (zip-map h fs)

pub early-aims : (times : TaxiTimes) (values : DayValues) (fs : List Flight) → early_in fs (aim_list fs times values) ≡ blocked_early fs times values
unfolding blocked_early
early-aims times values fs = search (rules, zip-map, filter_map-map)

-- what passes a test of what flights give
pub filter-filter_map : {X Y : Type 0} (q : Y → Bool) (h : X → Option Y) (fs : List X) → filter q (filter_map h fs) ≡ filter_map (λ f. if_passes q (h f)) fs
filter-filter_map q h [] = refl
filter-filter_map {X} {Y} q h (f ∷ fs) = grind (arith, common_steps, filter-filter_map q h fs)

-- two tests of which at most one holds part what passes either
pub parted : {X : Type 0} (a b : X → Bool) → ((x : X) → a x ≡ true → b x ≡ false) → (xs : List X)
    → IsPermutation (filter (λ x. a x || b x) xs) (filter a xs ++ filter b xs)
parted a b apart [] = IsPermutation-refl []
parted {X} a b apart (x ∷ xs) = go (a x) (b x) refl refl (parted a b apart xs) where
  go : (u v : Bool) → a x ≡ u → b x ≡ v → IsPermutation (filter (λ x. a x || b x) xs) (filter a xs ++ filter b xs)
      → IsPermutation (cond (u || v) (x ∷ filter (λ x. a x || b x) xs) (filter (λ x. a x || b x) xs))
      (cond u (x ∷ filter a xs) (filter a xs) ++ cond v (x ∷ filter b xs) (filter b xs))
  go true true e f rest = absurd (false≢true (sym (apart x e) ∙ f))
  go true false e f rest = IsPermutation-append_right (x ∷ []) _ _ rest
  go false true e f rest =
      IsPermutation-trans _ (x ∷ (filter a xs ++ filter b xs)) _ (IsPermutation-append_right (x ∷ []) _ _ rest)
      (IsPermutation-sym _ _ (IsPermutation-middle (filter a xs) x (filter b xs)))
  go false false e f rest = rest

-- Flights.

-- what holds of what a flight gives holds where a test leaves it
pub if_so-keeps : {Y : Type 0} (P : Y → Type 0) (b : Bool) (o : Option Y) → IfSome o P → IfSome (if_so b o) P
if_so-keeps P true o h = h
if_so-keeps P false o h = tt

if_on-keeps : (P : Target → Type 0) (r : List ℕ) (o : Option Target) → IfSome o P → IfSome (if_on r o) P
if_on-keeps P r o h = grind (arith, common_steps)

-- a target has its flight's name
key_name : (f : Flight) (times : TaxiTimes) (values : DayValues) → IfSome (target_in (aim_of f times values)) (λ t. t.key.name ≡ f.name)
key_name f times values = search (rules, aim_means)

-- a fixed flight has its flight's name, and has left
fixed_name : (f : Flight) → IfSome (fixed_slot f) (λ x. x.name ≡ f.name)
unfolding fixed_slot
fixed_name f = grind (arith, common_steps)

fixed_left : (f : Flight) → is_some (fixed_slot f) ≡ true → is_planned f.status ≡ false
unfolding fixed_slot
fixed_left f e = grind (arith, common_steps)

-- What a flight gives to a runway.

abbrev pub fixed_at : List ℕ → Flight → Option Slot
fixed_at r f = if_so (is_on r f) (fixed_slot f)

abbrev pub target_at : List ℕ → TaxiTimes → DayValues → Flight → Option Target
target_at r times values f = if_so (is_planned f.status) (if_on r (target_in (aim_of f times values)))

abbrev pub early_at : TaxiTimes → DayValues → Flight → Option BlockedFlight
early_at times values f = if_so (is_planned f.status) (blocked_in f.name (aim_of f times values))

pub fixed_on-given : (r : List ℕ) (fs : List Flight) → fixed_on r fs ≡ filter_map (fixed_at r) fs
unfolding fixed_on
fixed_on-given r fs = filter_map-filter fixed_slot (is_on r) fs

pub targets_on-given : (r : List ℕ) (times : TaxiTimes) (values : DayValues) (fs : List Flight)
    → targets_on r (targets_of fs times values) ≡ filter_map (target_at r times values) fs
unfolding targets_of
targets_on-given r times values fs = search (rules, filter-filter_map, filter_map-filter)

pub early-given : (times : TaxiTimes) (values : DayValues) (fs : List Flight) → blocked_early fs times values ≡ filter_map (early_at times values) fs
unfolding blocked_early
early-given times values fs = filter_map-filter (λ f. blocked_in f.name (aim_of f times values)) (λ f. is_planned f.status) fs

-- the targets and the blocked flights among the aims of the planned flights
pub targets-among : (r : List ℕ) (times : TaxiTimes) (values : DayValues) (fs : List Flight)
    → filter_map (target_for r) (map (aimed times values) (planned_of fs)) ≡ targets_on r (targets_of fs times values)
unfolding targets_of aimed
targets-among r times values fs = search (rules, filter_map-map, filter-filter_map)

pub blocked-among : (times : TaxiTimes) (values : DayValues) (fs : List Flight)
    → filter_map (λ (a : Aimed). blocked_in a.name a.aim) (map (aimed times values) (planned_of fs)) ≡ blocked_early fs times values
unfolding blocked_early aimed
blocked-among times values fs = filter_map-map (λ (a : Aimed). blocked_in a.name a.aim) (aimed times values) (planned_of fs)

-- a flight is a fixed flight or a target
some_inside : {Y : Type 0} (b : Bool) (o : Option Y) → is_some (if_so b o) ≡ true → is_some o ≡ true
some_inside true o h = h
some_inside false o h = absurd (false≢true h)

apart : (r : List ℕ) (times : TaxiTimes) (values : DayValues) (f : Flight) → is_some (fixed_at r f) ≡ true → is_some (target_at r times values f) ≡ false
apart r times values f h = search (rules, fixed_left, some_inside)

-- what a flight gives, it gives to its own runway
pub no_target_at : (r : List ℕ) (times : TaxiTimes) (values : DayValues) (f : Flight) → is_on r f ≡ false → target_at r times values f ≡ None
no_target_at r times values f h = search (rules, aim_means)

pub no_fixed_at : (r : List ℕ) (f : Flight) → counts f ≡ false → fixed_at r f ≡ None
unfolding fixed_slot
no_fixed_at r f h = grind (arith, common_steps)

-- the flights of a runway that have left their stands are fixed
pub fixed-gone : (r : List ℕ) (fs : List Flight) → fixed_on r (gone_of fs) ≡ fixed_on r fs
unfolding fixed_slot
fixed-gone r fs = search (rules, fixed_on-given, filter_map-filter)

pub no_aim_at : (r : List ℕ) (times : TaxiTimes) (values : DayValues) (f : Flight) → counts f ≡ false → target_at r times values f ≡ None
unfolding aim_of
no_aim_at r times values f h = grind (arith, common_steps)

-- a flight stands on a runway as a fixed flight or with its target
abbrev pub stands : TaxiTimes → DayValues → List ℕ → Flight → Bool
stands times values r f = is_some (fixed_at r f) || is_some (target_at r times values f)

pub stands_here : (times : TaxiTimes) (values : DayValues) (r : List ℕ) (f : Flight) → stands times values r f ≡ true
    → (is_on r f ≡ true) × (is_some (early_at times values f) ≡ false)
stands_here times values r f h = search (rules, false_from_ne_true, no_target_at, fixed_left, some_inside)

-- the names of a runway's flights are those of the flights that stand on it
pub names_stand : (r : List ℕ) (times : TaxiTimes) (values : DayValues) (fs : List Flight)
    → IsPermutation (map (λ f. f.name) (filter (stands times values r) fs)) (flight_names (fixed_on r fs) (targets_on r (targets_of fs times values)))
names_stand r times values fs =
    let a : Flight → Bool = λ f. is_some (fixed_at r f) in
    let b : Flight → Bool = λ f. is_some (target_at r times values f) in
    let name : Flight → List ℕ = λ f. f.name in
    let fixed = ap (map (λ (x : Slot). x.name)) (fixed_on-given r fs)
    ∙ names_given (λ x. x.name) name (fixed_at r) (λ f. if_so-keeps _ (is_on r f) (fixed_slot f) (fixed_name f)) fs in
    let targets = ap (map (λ (t : Target). t.key.name)) (targets_on-given r times values fs)
    ∙ names_given (λ t. t.key.name) name (target_at r times values)
    (λ f. if_so-keeps _ (is_planned f.status) _ (if_on-keeps _ r (target_in (aim_of f times values)) (key_name f times values))) fs in
    subst (IsPermutation (map name (filter (stands times values r) fs))) (map-append name (filter a fs) (filter b fs) ∙ (λ i. sym fixed i ++ sym targets i))
    (IsPermutation-map name (filter (stands times values r) fs) (filter a fs ++ filter b fs) (parted a b (apart r times values) fs))

-- so they have names of their own
pub names_on : (r : List ℕ) (times : TaxiTimes) (values : DayValues) (fs : List Flight) → IsDistinct same_name (map (λ f. f.name) fs)
    → IsDistinct same_name (flight_names (fixed_on r fs) (targets_on r (targets_of fs times values)))
names_on r times values fs own =
    IsDistinct-IsPermutation same_name same_flips _ _
    (names_stand r times values fs) (distinct_filter same_name (λ (f : Flight). f.name) (stands times values r) fs own)

-- no more names than elements
pub few_names : {X : Type 0} (name : X → List ℕ) (fs : List X) (p : X → Bool) (ns : List (List ℕ)) → IsPermutation (map name (filter p fs)) ns
    → length ns ≤ length fs
few_names name fs p ns same =
    let long = length_permutation (map name (filter p fs)) ns same in
    let mapped = length-map (filter p fs) name in
    let both = length-filter_both p (λ f. not (p f)) (λ f. refl) fs in
    omega arith

-- and so has each runway
pub few_on : (r : List ℕ) (times : TaxiTimes) (values : DayValues) (fs : List Flight)
    → length (fixed_on r fs) + length (targets_on r (targets_of fs times values)) ≤ length fs
few_on r times values fs =
    let few = few_names (λ (f : Flight). f.name) fs (stands times values r) (flight_names (fixed_on r fs) (targets_on r (targets_of fs times values)))
    (names_stand r times values fs) in
    let parts = length-append (map (λ (x : Slot). x.name) (fixed_on r fs))
    (map (λ (t : Target). t.key.name) (targets_on r (targets_of fs times values))) in
    let fixed = length-map (fixed_on r fs) (λ (x : Slot). x.name) in
    let targets = length-map (targets_on r (targets_of fs times values)) (λ (t : Target). t.key.name) in
    omega arith

-- the flights that are blocked early, by name
pub early_named : (times : TaxiTimes) (values : DayValues) (fs : List Flight)
    → IsPermutation (map (λ f. f.name) (filter (λ f. is_some (early_at times values f)) fs))
    (map (λ (b : BlockedFlight). b.name) (blocked_early fs times values))
early_named times values fs =
    let name : Flight → List ℕ = λ f. f.name in
    let own : (f : Flight) (a : AimResult) → IfSome (blocked_in f.name a) (λ b. b.name ≡ f.name) = λ f. elim [ Ready t ↦ tt | Early rule ↦ refl ] in
    rw (
      early-given times values fs,
      names_given (λ b. b.name) name (early_at times values)
          (λ f. if_so-keeps _ (is_planned f.status) _ (own f (aim_of f times values))) fs,
    ) (IsPermutation-refl _)

-- Each flight of a day once.

module _ (times : TaxiTimes) (values : DayValues) (fs : List Flight) where
  -- the flight stands on the runway of one of the plans, or is blocked early
  abbrev pub stands_in : List RunwayPlan → Flight → Bool
  stands_in [] f = is_some (early_at times values f)
  stands_in (p ∷ ps) f = stands times values p.runway f || stands_in ps f

  none_in : (r : List ℕ) (f : Flight) → stands times values r f ≡ true → (ps : List RunwayPlan)
      → AllByRecursion (λ n. same_name r n ≡ false) (map (λ p. p.runway) ps) → stands_in ps f ≡ false
  none_in r f h [] all = (stands_here times values r f h).1
  none_in r f h (p ∷ ps) all = search (rules, some_named, stands_here, false_from_ne_true, none_in r f h ps all.1)

  -- the plan shows the flights that stand on its runway
  abbrev pub Shows : RunwayPlan → Type 0
  Shows p = IsPermutation (map (λ f. f.name) (filter (stands times values p.runway) fs)) (shown p)

  -- plans of runways, and the flights that are blocked early, show each flight once
  pub once : (ps : List RunwayPlan) → IsDistinct same_name (map (λ p. p.runway) ps) → All Shows ps
      → IsPermutation (map (λ f. f.name) (filter (stands_in ps) fs)) (flat_map shown ps ++ map (λ b. b.name) (blocked_early fs times values))
  once [] apart all = early_named times values fs
  once (p ∷ ps) apart all =
      let name : Flight → List ℕ = λ f. f.name in
      let runways = map (λ (p : RunwayPlan). p.runway) ps in
      let early = map (λ (b : BlockedFlight). b.name) (blocked_early fs times values) in
      let here = stands times values p.runway in
      let others = once ps (IsDistinct-tail same_name p.runway runways apart) (All-tail Shows p ps all) in
      let split = parted here (stands_in ps) (λ f h. none_in p.runway f h ps (IsDistinct-head same_name p.runway runways apart)) fs in
      rw (append_assoc (shown p) (flat_map shown ps) early) (IsPermutation-trans _ _ _ (IsPermutation-map name _ _ split)
      (rw (map-append name (filter here fs) (filter (stands_in ps) fs)) (IsPermutation-append _ _ _ _ (All-head Shows p ps all) others)))

-- Runway by runway.

-- the targets of a runway have its name
pub on_it : (r : List ℕ) (aims : List Aimed) → All (λ t. t.runway ≡ r) (filter_map (target_for r) aims)
on_it r aims = All-given (target_for r) (λ t. t.runway ≡ r) aims (λ a i. given (target_in a.aim))
  where
    by : (b : Bool) (t : Target) → same_name t.runway r ≡ b → IfSome (cond b (Some t) None) (λ t. t.runway ≡ r)
    by true t e = same_is t.runway r e
    by false t e = tt

    given : (o : Option Target) → IfSome (if_on r o) (λ t. t.runway ≡ r)
    given o = search (rules, by)

-- what holds of all that goes with something
pub all_zipped : {X Y : Type 0} (R : X → Y → Type 0) (P : Y → Type 0) → ((x : X) (y : Y) → R x y → P y) → (xs : List X) (ys : List Y) → AllZip R xs ys
    → All P ys
all_zipped R P h [] [] all = All-nil P
all_zipped R P h (x ∷ xs) (y ∷ ys) all = All-cons P y ys (h x y all.0) (all_zipped R P h xs ys all.1)
all_zipped R P h _ _ all = absurd all

-- plans that were made runway by runway have the runways' names
pub made_named : (fixed : List ℕ → List Slot) (targets : List ℕ → List Target) (rs : List RunwayRules) (ps : List RunwayPlan)
    → AllZip (λ r p. IsSequence r (fixed r.name) (targets r.name) p) rs ps → map (λ p. p.runway) ps ≡ map (λ r. r.name) rs
made_named fixed targets [] [] all = refl
made_named fixed targets (r ∷ rs) (p ∷ ps) all = λ i. all.0.1.runway i ∷ made_named fixed targets rs ps all.1 i
made_named fixed targets _ _ all = absurd all

-- such a plan shows the flights that stand on its runway
pub shows_made : (times : TaxiTimes) (values : DayValues) (fs : List Flight) (rs : List RunwayRules) (ps : List RunwayPlan)
    → AllZip (λ r p. IsSequence r (fixed_on r.name fs) (targets_on r.name (targets_of fs times values)) p) rs ps → All (Shows times values fs) ps
shows_made times values fs = all_zipped _ (Shows times values fs) (λ r p h.
    let fixed = fixed_on r.name fs in
    let targets = targets_on r.name (targets_of fs times values) in
    rw h.1.runway (IsPermutation-trans _ _ _ (names_stand r.name times values fs) (all_shown r fixed targets p h)))

-- its fixed flights have left their stands
all_left : (r : List ℕ) (fs : List Flight) → All (λ (x : Slot). IsTrue (is_fixed x.mark)) (fixed_on r fs)
unfolding fixed_on fixed_slot
all_left r fs = All-given fixed_slot (λ x. IsTrue (is_fixed x.mark)) (filter (is_on r) fs) (λ f i. by f f.status)
  where
    by : (f : Flight) (s : Status) → IfSome (slot_by f s) (λ x. IsTrue (is_fixed x.mark))
    by f s = search rules

-- each runway can be sequenced
pub can_sequence : (times : TaxiTimes) (values : DayValues) (fs : List Flight) → IsDistinct same_name (map (λ f. f.name) fs) → length fs ≤ 2000 → (r : List ℕ)
    → CanSequence (fixed_on r fs) (targets_on r (targets_of fs times values))
can_sequence times values fs own few r = search (rules, all_left, names_on, few_on)

-- all the planned flights are planned
pub planned_are : (fs : List Flight) → All (λ f. is_planned f.status ≡ true) (planned_of fs)
planned_are fs = filter_passes (λ f. is_planned f.status) fs

-- the flights of a runway among lent ones
pub fixed_on-lent : (r : List ℕ) (fs : List (Bor Flight))
    → filter_map (λ f. fixed_slot f.now) (filter (λ f. is_on r f.now) fs) ≡ fixed_on r (map (λ f. f.now) fs)
fixed_on-lent r fs = search (rules, filter_map-filter, fixed_on-given, filter_map-map)
