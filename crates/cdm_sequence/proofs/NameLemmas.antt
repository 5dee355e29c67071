-- The names that a sequence shows.
use Rattle.cdm_sequence.proofs.Words.{rules, [], ◌≡◌, ℕ, not, List, ◌∷◌, ◌++◌, Option, Some, None, is_none, sym, ◌∙◌, ap, subst, refl}
use Rattle.cdm_sequence.proofs.Words.{filter, map, append_assoc, filter_map, IsPermutation, is_some, option_map, map-append}
use Rattle.cdm_sequence.proofs.Words.{IsPermutation-append, IsPermutation-append_right, IsPermutation-map, IsPermutation-trans, RunwayRules}
use Rattle.cdm_sequence.specs.{Plan.Placing, Sequence.{planned_slot, flight_names, IsSequence}, declared.plan.RunwayPlan.RunwayPlan}
use Rattle.cdm_sequence.specs.{declared.slot.Slot.Slot, declared.target.Target.Target, inner.Shown.{slots_by, names_left}}
use Rattle.std.proofs.{Common.IfSome, lemmas.List.Sorted.IsPermutation-filter_both}

-- the names of what flights give are those of the flights that give something
pub names_given : {X Y : Type 0} (name : Y → List ℕ) (key : X → List ℕ) (h : X → Option Y) → ((f : X) → IfSome (h f) (λ y. name y ≡ key f))
    → (fs : List X) → map name (filter_map h fs) ≡ map key (filter (λ f. is_some (h f)) fs)
names_given name key h own [] = refl
names_given {X} {Y} name key h own (f ∷ fs) = search (rules, names_given name key h own fs)

-- each flight has a slot, or is left without one
pub shown_by : (p : Placing) (fixed : List Slot) (ts : List Target)
    → IsPermutation (flight_names fixed ts) (map (λ x. x.name) (slots_by p fixed ts) ++ names_left p ts)
shown_by p fixed ts =
    let key : Target → List ℕ = λ t. t.key.name in
    let slot : Target → Option Slot = λ t. option_map (planned_slot t) (p t) in
    let name : Slot → List ℕ = λ x. x.name in
    let own : (t : Target) (o : Option ℕ) → IfSome (option_map (planned_slot t) o) (λ x. x.name ≡ t.key.name) = λ t. elim [ None ↦ tt | Some m ↦ refl ] in
    let other : (t : Target) (o : Option ℕ) → is_none o ≡ not (is_some (option_map (planned_slot t) o)) = λ t. elim [ None ↦ refl | Some m ↦ refl ] in
    let given = filter (λ t. is_some (slot t)) ts in
    let left = filter (λ t. is_none (p t)) ts in
    let parted = IsPermutation-map key ts (given ++ left) (IsPermutation-filter_both (λ t. is_some (slot t)) (λ t. is_none (p t)) (λ t. other t (p t)) ts) in
    let named : map key (given ++ left) ≡ map name (filter_map slot ts) ++ names_left p ts =
    map-append key given left ∙ ap (λ (ns : List (List ℕ)). ns ++ names_left p ts) (sym (names_given name key slot (λ t. own t (p t)) ts)) in
    let whole : map name fixed ++ (map name (filter_map slot ts) ++ names_left p ts) ≡ map name (slots_by p fixed ts) ++ names_left p ts =
    sym (append_assoc (map name fixed) (map name (filter_map slot ts)) (names_left p ts))
    ∙ ap (λ (ns : List (List ℕ)). ns ++ names_left p ts) (sym (map-append name fixed (filter_map slot ts))) in
    subst (IsPermutation (flight_names fixed ts)) whole (IsPermutation-append_right (map name fixed) _ _ (subst (IsPermutation (map key ts)) named parted))

-- the names that the plan of a runway shows
abbrev pub shown : RunwayPlan → List (List ℕ)
shown plan = map (λ x. x.name) plan.slots ++ map (λ b. b.name) plan.blocked

-- they are those of all its flights
pub all_shown : (r : RunwayRules) (fixed : List Slot) (targets : List Target) (plan : RunwayPlan) → IsSequence r fixed targets plan
    → IsPermutation (flight_names fixed targets) (shown plan)
all_shown r fixed targets plan (p, e) =
    let slots = IsPermutation-map (λ (x : Slot). x.name) (slots_by p fixed targets) plan.slots e.slots in
    IsPermutation-trans _ _ _ (shown_by p fixed targets) (IsPermutation-append _ _ _ _ slots e.blocked)
