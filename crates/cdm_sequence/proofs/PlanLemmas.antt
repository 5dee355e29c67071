-- What holds of a plan, whoever made it: it is the only one, it is allowed, and no allowed placing is earlier.
use Rattle.cdm_sequence.proofs.Words.{common_steps, ◌≡◌, ℕ, ◌+◌, ◌<◌, ◌≤◌, ◌/◌, ◌==◌, ◌&&◌, Bool, true, false, not, List, ◌∷◌, ◌++◌, Option}
use Rattle.cdm_sequence.proofs.Words.{Some, None, rules, [], sym, ◌∙◌, ap, subst, refl, arith, inl, inr, filter, map, length, get_or}
use Rattle.cdm_sequence.proofs.Words.{filter_map, Contains, IsDistinct, option_map, option_map_or, false≢true, and_parts, not-true}
use Rattle.cdm_sequence.proofs.Words.{true_from_ne_false, Decides-eqb, All-contains, Contains-get_or, filter_passes, same_name, is_before}
use Rattle.cdm_sequence.proofs.Words.{apart_from_head, contains_all, contains_kept, contains_head, contains_tail, filter_map_same}
use Rattle.cdm_sequence.proofs.Words.{RunwayRules, cap_at, held_in_cell, taken_by, IsFree, Taken}
use Rattle.cdm_sequence.proofs.OrderLemmas.{before_itself, before_or_after, first_in, is_same, keys_weak, same_is}
use Rattle.cdm_sequence.proofs.DifferenceLemmas.{compared}
use Rattle.cdm_sequence.specs.Plan.{Placing, taken_before, taken_of, IsLeast, IsPlan, MayHave, IsAllowed, IsSooner, IsEarlier, IsFirst}
use Rattle.cdm_sequence.specs.declared.target.Target.{Target}
use Rattle.std.proofs.{Common.{count_by, eq-eqb}, lemmas.List.Sums.sum_by-append, lemmas.List.Sorted.IsStrictWeakOrder-flip}
use Rattle.std.specs.{Prelude.slice_index, Option.IfSome}
use Rattle.cdm_flight.proofs.Lists.{distinct_filter}

-- placings that agree on the flights before f leave it the same
pub taken_agree : (r : RunwayRules) (fixed : List Taken) (ts : List Target) (p q : Placing) (f : Target)
    → ((g : Target) → Contains ts g → is_before g.key f.key ≡ true → p g ≡ q g) → taken_before r fixed ts p f ≡ taken_before r fixed ts q f
taken_agree r fixed ts p q f same =
    let earlier : Target → Bool = λ g. is_before g.key f.key in
    let passes = filter_passes earlier ts in
    ap (λ (xs : List Taken). fixed ++ xs) (filter_map_same (taken_of r p) (taken_of r q) (filter earlier ts) (λ g i.
    ap (option_map (taken_by r g.group)) (same g (contains_all earlier ts g i) (All-contains (λ g. earlier g ≡ true) (filter earlier ts) g passes i))))

-- a minute at which the flight could take off
abbrev Fits : RunwayRules → List Taken → Target → ℕ → Type 0
Fits r taken f m = (f.window.start ≤ m) × (m < f.window.end) × IsFree r taken f.group m

-- none is sooner than its earliest
fits_later : (r : RunwayRules) (taken : List Taken) (f : Target) (o u : Option ℕ) → IfSome o (Fits r taken f) → IsLeast r taken f u → IsSooner o u → ⊥
fits_later r taken f o u fits least s = search rules

least_fits : (r : RunwayRules) (taken : List Taken) (f : Target) (o : Option ℕ) → IsLeast r taken f o → IfSome o (Fits r taken f)
least_fits r taken f o least = search rules

module _ (r : RunwayRules) (fixed : List Taken) (ts : List Target) where
  -- each flight has its earliest minute
  least_of : (p : Placing) → IsPlan r fixed ts p → (f : Target) → Contains ts f → IsLeast r (taken_before r fixed ts p f) f (p f)
  least_of p plan f = All-contains (λ f. IsLeast r (taken_before r fixed ts p f) f (p f)) ts f plan

  -- where a placing is earlier than the plan, its first other minute doesn't fit
  none_fits : (p q : Placing) → IsPlan r fixed ts p → (e : IsEarlier ts q p) → IfSome (q e.first) (Fits r (taken_before r fixed ts q e.first) e.first) → ⊥
  none_fits p q plan e fits = search (rules, fits_later, taken_agree, least_of)

  -- there is one plan
  pub plan_one : (p q : Placing) → IsPlan r fixed ts p → IsPlan r fixed ts q → (f : Target) → Contains ts f → p f ≡ q f
  plan_one p q a b = elim (compared ts p q) [
    | inl same ↦ same
    | inr (inl e) ↦ absurd (none_fits q p b e (least_fits r (taken_before r fixed ts p e.first) e.first (p e.first) (least_of p a e.first e.among)))
    | inr (inr e) ↦ absurd (none_fits p q a e (least_fits r (taken_before r fixed ts q e.first) e.first (q e.first) (least_of q b e.first e.among)))
  ]

  -- a placing that agrees with the plan on its targets is the plan
  pub plan_agree : (p q : Placing) → ((g : Target) → Contains ts g → p g ≡ q g) → IsPlan r fixed ts p → IsPlan r fixed ts q
  plan_agree p q same plan = λ k d l.
      let f = get_or ts k d in
      let taken = taken_agree r fixed ts p q f (λ g i b. same g i) in
      let own = same f (Contains-get_or ts k d l) in
      subst (λ (xs : List Taken). IsLeast r xs f (q f)) taken (subst (λ (o : Option ℕ). IsLeast r (taken_before r fixed ts p f) f o) own (plan k d l))

-- What a cell holds.

-- what passes a test among what a list gives is given by the elements that pass another test, or by others
given_parted : {X Y : Type 0} (t : Y → Bool) (p : X → Option Y) (b : X → Bool) (xs : List X)
    → count_by t (filter_map p xs) ≡ count_by t (filter_map p (filter b xs)) + length (filter (λ x. not (b x) && option_map_or t (p x) false) xs)
given_parted t p b [] = refl
given_parted {X} {Y} t p b (x ∷ xs) = grind (arith, common_steps, given_parted t p b xs)

-- flights of one name of which each has a name of its own are one at most
one_at_most : (name : List ℕ) (fs : List Target) → IsDistinct same_name (map (λ f. f.key.name) fs)
    → ((f : Target) → Contains fs f → same_name f.key.name name ≡ true) → length fs ≤ 1
one_at_most name [] own same = omega arith
one_at_most name (f ∷ []) own same = omega arith
one_at_most name (f ∷ g ∷ fs) own same =
    let names = map (λ (f : Target). f.key.name) fs in
    let apart = apart_from_head same_name f.key.name (g.key.name ∷ names) g.key.name own (contains_head g.key.name names) in
    let here = same_is f.key.name name (same f (contains_head f (g ∷ fs))) in
    let next = same_is g.key.name name (same g (contains_tail f (g ∷ fs) g (contains_head g fs))) in
    absurd (false≢true (sym apart ∙ is_same f.key.name g.key.name (here ∙ sym next)))

module _ (r : RunwayRules) (fixed : List Taken) (ts : List Target) (p : Placing) (m : ℕ) where
  -- the placing puts the flight into the cell of m
  here : Target → Bool
  here f = option_map_or (λ t. t.minute / r.cell == m / r.cell) (taken_of r p f) false

  -- those that it puts there, and that don't come before f
  rest : Target → Target → Bool
  rest f g = not (is_before g.key f.key) && here g

  held_parted : (f : Target)
      → held_in_cell r.cell (fixed ++ filter_map (taken_of r p) ts) m ≡ held_in_cell r.cell (taken_before r fixed ts p f) m + length (filter (rest f) ts)
  unfolding rest here
  held_parted f = search (rules, sum_by-append, given_parted)

  is_here : (f : Target) → p f ≡ Some m → here f ≡ true
  unfolding here
  is_here f e = ap (λ (o : Option ℕ). option_map_or (λ t. t.minute / r.cell == m / r.cell) (option_map (taken_by r f.group) o) false) e ∙ eq-eqb (m / r.cell) (m / r.cell) refl

  -- where the placing has f at m, its cell has all that stands before f, and f
  room_for : (f : Target) → Contains ts f → p f ≡ Some m
      → held_in_cell r.cell (taken_before r fixed ts p f) m < held_in_cell r.cell (fixed ++ filter_map (taken_of r p) ts) m
  unfolding rest
  room_for f i e =
      let own = contains_kept (rest f) ts f i (ap (λ (b : Bool). not b && here f) (before_itself f.key) ∙ is_here f e) in
      let all = held_parted f in
      let some = own.1 in
      omega arith

  -- the cell of a minute that a plan gives isn't overfilled
  cell_within : IsDistinct same_name (map (λ f. f.key.name) ts) → IsPlan r fixed ts p → (f : Target) → Contains ts f → p f ≡ Some m
      → held_in_cell r.cell (fixed ++ filter_map (taken_of r p) ts) m ≤ cap_at r m
  unfolding rest here
  cell_within own plan f i e =
      let order = IsStrictWeakOrder-flip (λ (x y : Target). is_before x.key y.key) keys_weak in
      elim (first_in (λ x y. is_before y.key x.key) order (filter here ts)) [
        | inl none ↦ absurd (none f (contains_kept here ts f i (is_here f e)))
        | inr (g, j, last) ↦
            let among = contains_all here ts g j in
            let most = one_at_most g.key.name (filter (rest g) ts) (distinct_filter same_name (λ (f : Target). f.key.name) (rest g) ts own) (λ h k.
            let passes = All-contains (λ f. rest g f ≡ true) (filter (rest g) ts) h (filter_passes (rest g) ts) k in
            let parts = and_parts (not (is_before h.key g.key)) (here h) passes in
            let later = not-true (is_before h.key g.key) parts.0 in
            let back = last h (contains_kept here ts h (contains_all (rest g) ts h k) parts.1) in
            true_from_ne_false (same_name h.key.name g.key.name) (λ n. false≢true (sym later ∙ before_or_after h.key g.key back n))) in
            let all = held_parted g in
            let taken = taken_before r fixed ts p g in
            let within : (o : Option ℕ) → option_map_or (λ t. t.minute / r.cell == m / r.cell) (option_map (taken_by r g.group) o) false ≡ true → IsLeast r taken g o → held_in_cell r.cell taken m < cap_at r m =
            elim [
              | None ↦ λ t least. absurd (false≢true t)
              | Some n ↦ λ t least.
                  subst (λ (k : ℕ). count_by (λ t. t.minute / r.cell == k) taken < slice_index r.caps k) ((Decides-eqb (n / r.cell) (m / r.cell)).0 t) least.free.has_room
            ] in
            let room = within (p g) (All-contains (λ f. here f ≡ true) (filter here ts) g (filter_passes here ts) j) (least_of r fixed ts p plan g among) in
            omega arith
      ]

module _ (r : RunwayRules) (fixed : List Taken) (ts : List Target) where
  -- a plan of flights with names of their own is allowed
  pub plan_allowed : (p : Placing) → IsDistinct same_name (map (λ f. f.key.name) ts) → IsPlan r fixed ts p → IsAllowed r fixed ts p
  plan_allowed p own plan = λ k d l.
      let f = get_or ts k d in
      let go : (o : Option ℕ) → p f ≡ o → IsLeast r (taken_before r fixed ts p f) f o → IfSome o (MayHave r (taken_before r fixed ts p f) (fixed ++ filter_map (taken_of r p) ts) f) = elim [
        | None ↦ λ e least. tt
        | Some m ↦ λ e least. record {
          after = least.after;
          before = least.before;
          is_open = least.free.is_open;
          is_spaced = least.free.is_spaced;
          within_cap = cell_within r fixed ts p m own plan f (Contains-get_or ts k d l) e;
        }
      ] in
      go (p f) refl (plan k d l)

  -- no allowed placing is earlier than the plan
  pub none_earlier : (p q : Placing) → IsPlan r fixed ts p → IsAllowed r fixed ts q → IsEarlier ts q p → ⊥
  none_earlier p q plan allowed e =
      let f = e.first in
      let go : (o : Option ℕ) → q f ≡ o → IfSome o (MayHave r (taken_before r fixed ts q f) (fixed ++ filter_map (taken_of r q) ts) f) → IfSome o (Fits r (taken_before r fixed ts q f) f) = elim [
        | None ↦ λ h may. tt
        | Some m ↦ λ h may. let room = room_for r fixed ts q m f e.among h in let within = may.within_cap in
            (may.after, may.before, record { is_open = may.is_open; is_spaced = may.is_spaced; has_room = omega arith })
      ] in
      none_fits r fixed ts p q plan e (go (q f) refl (All-contains (λ f. IfSome (q f) (MayHave r (taken_before r fixed ts q f) (fixed ++ filter_map (taken_of r q) ts) f)) ts f allowed e.among))

  -- so it is first
  pub plan_first : (p : Placing) → IsDistinct same_name (map (λ f. f.key.name) ts) → IsPlan r fixed ts p → IsFirst r fixed ts p
  plan_first p own plan = record { allowed = plan_allowed p own plan; none_earlier = λ q allowed e. none_earlier p q plan allowed e }

  -- and no other is
  pub first_one : (p q : Placing) → IsFirst r fixed ts p → IsFirst r fixed ts q → (f : Target) → Contains ts f → p f ≡ q f
  first_one p q a b = elim (compared ts p q) [
    | inl same ↦ same
    | inr (inl e) ↦ absurd (b.none_earlier p a.allowed e)
    | inr (inr e) ↦ absurd (a.none_earlier q b.allowed e)
  ]
