-- Changes: those told before are passed flight by flight, and standings that both days have can be left out.
use Rattle.std.proofs.Common.{◌≡◌, ℕ, ◌+◌, ◌-◌, ◌<◌, Bool, true, false, ◌&&◌, ◌||◌, List, [], ◌∷◌, ◌++◌, length, length-drop, get_or, drop}
use Rattle.std.proofs.{Common.{map, take, not, refl, sym, ◌∙◌, ap, arith, subst, filter}, lemmas.{Bool.and_from, Cmp.nat_list_cmp_total}}
use Rattle.std.proofs.lemmas.List.{take-append-drop, take_all, take_more, Elements.filter-append, Folds.list_any-append}
use Rattle.std.proofs.lemmas.List.{Kept.IsSortedBy-filter, Sorted.{ranks_by, list_any-IsPermutation}}
use Rattle.std.specs.{Cmp.IsStrictWeakOrder, Cmp.Lexicographic.pointwise, Ordering.is_lt, Prelude.nat_eq, List.Sorted.IsSortedByKey}
use Rattle.cdm_flight.proofs.Lists.{IsPermutation-filter, apart_from_rest, filter_same}
use Rattle.cdm_plan.proofs.{NameLemmas.by_name, OnePlanLemmas.one_day_plan}
use Rattle.cdm_plan.proofs.ListWords.{contains_map, Contains, IsDistinct, IsDistinct-IsPermutation, IsPermutation, append_assoc}
use Rattle.cdm_plan.proofs.ListWords.{distinct_right, list_any-append, map-append, IsPermutation-append_comm, IsPermutation-append_left}
use Rattle.cdm_plan.proofs.ListWords.{IsPermutation-append_right, IsPermutation-map, IsPermutation-refl, IsPermutation-sym}
use Rattle.cdm_plan.proofs.ListWords.{IsPermutation-append, IsPermutation-trans, append-nil, distinct_filter}
use Rattle.cdm_plan.proofs.PlanWords.{is_same, name_cmp, same_name, DayRecord, IsDayPlan, IsSound, Plan, flights_in, runway_names}
use Rattle.cdm_plan.proofs.PlanWords.{same_flips}
use Rattle.cdm_time.specs.declared.calendar.CalendarDate.{CalendarDate}
use Rattle.cdm_view.specs.{declared.standing.Standing.Standing, inner.Left.AreRests}
use Rattle.cdm_view.specs.Standings.{changes, flight_name, is_same_told, is_told, standing_line, AreChanges, IsChangedTo, standings_of}
use Rattle.cdm_view.proofs.{ListLemmas.any_without, ListLemmas.any_with, ListLemmas.filter_none, StandingLemmas.standings_apart}

-- standings are sorted by flight
abbrev pub order : IsStrictWeakOrder (λ (a b : Standing). is_lt (name_cmp (flight_name a) (flight_name b)))
order = ranks_by nat_list_cmp_total flight_name

module _ (day : CalendarDate) where
  pub unlike : (s t : Standing) → same_name (flight_name s) (flight_name t) ≡ false → is_same_told day s t ≡ false
  unlike s t = ap (λ b. b && pointwise nat_eq (standing_line day s) (standing_line day t))

-- What is left, list by list.

-- of two lists that share nothing
pub rests_all : {X : Type 0} (one other : List X) → AreRests one other one other
rests_all one other = record { same = []; of_one = IsPermutation-refl one; of_other = IsPermutation-refl other }

pub rests_map : {X Y : Type 0} (f : X → Y) (one other p q : List X) → AreRests one other p q → AreRests (map f one) (map f other) (map f p) (map f q)
rests_map f one other p q rests = record {
  same = map f rests.same;
  of_one = rw (← map-append f rests.same p) (IsPermutation-map f _ one rests.of_one);
  of_other = rw (← map-append f rests.same q) (IsPermutation-map f _ other rests.of_other);
}

both : {X : Type 0} (same first whole more rest longer : List X) → IsPermutation (same ++ first) whole → IsPermutation (more ++ rest) longer
    → IsPermutation ((same ++ more) ++ (first ++ rest)) (whole ++ longer)
both same first whole more rest longer is also =
    let swapped : IsPermutation (more ++ (first ++ rest)) (first ++ (more ++ rest)) =
    rw (← append_assoc more first rest, ← append_assoc first more rest)
    (IsPermutation-append_left rest (more ++ first) (first ++ more) (IsPermutation-append_comm more first)) in
    IsPermutation-trans _ (same ++ (first ++ (more ++ rest))) _ (rw (append_assoc same more (first ++ rest)) (IsPermutation-append_right same _ _ swapped))
    (rw (← append_assoc same first (more ++ rest)) (IsPermutation-append (same ++ first) whole (more ++ rest) longer is also))

-- with more behind them, of which these are left
pub rests_more : {X : Type 0} (first second one other p q before after longer later : List X) → AreRests one other p q → longer ≡ before ++ p
    → later ≡ after ++ q → AreRests first second before after → AreRests (first ++ one) (second ++ other) longer later
rests_more first second one other p q before after longer later rests e h are = record {
  same = are.same ++ rests.same;
  of_one = rw e (both are.same before first rests.same p one are.of_one rests.of_one);
  of_other = rw h (both are.same after second rests.same q other are.of_other rests.of_other);
}

-- and of which none is left, since both have it
pub rests_same : {X : Type 0} (one other p q more : List X) → AreRests one other p q → AreRests (one ++ more) (other ++ more) p q
rests_same one other p q more rests =
    let whole : IsPermutation (more ++ []) more = rw (append-nil more) (IsPermutation-refl more) in
    rests_more one other more more [] [] p q p q record { same = more; of_one = whole; of_other = whole } (sym (append-nil p)) (sym (append-nil q)) rests

-- Rests of lists up to a place of each.

module _ {X : Type 0} (xs ys : List X) (i j : ℕ) (p q : List X) (rests : AreRests (take i xs) (take j ys) p q) where
  one_more : (zs : List X) (k : ℕ) (z : X) → k < length zs → z ≡ get_or zs k z → take (k + 1) zs ≡ take k zs ++ z ∷ []
  one_more zs k z within at = take_more zs k z within ∙ ap (λ y. take k zs ++ y ∷ []) (sym at)

  -- with one more that both have
  pub rests_shared : (x y : X) → i < length xs → j < length ys → x ≡ get_or xs i x → y ≡ get_or ys j y → x ≡ y
      → AreRests (take (i + 1) xs) (take (j + 1) ys) p q
  rests_shared x y l m at there same =
      rw (one_more xs i x l at, one_more ys j y m there, ← same) (rests_same (take i xs) (take j ys) p q (x ∷ []) rests)

  -- with more of each that is left
  behind : (first second : List X) → AreRests (take i xs ++ first) (take j ys ++ second) (p ++ first) (q ++ second)
  behind first second = rests_more _ _ first second first second p q _ _ (rests_all first second) refl refl rests

  pub rests_one : (x : X) → i < length xs → x ≡ get_or xs i x → AreRests (take (i + 1) xs) (take j ys) (p ++ x ∷ []) q
  rests_one x l at = rw (one_more xs i x l at) (rw (append-nil (take j ys), append-nil q) at (behind (x ∷ []) []))

  pub rests_other : (y : X) → j < length ys → y ≡ get_or ys j y → AreRests (take i xs) (take (j + 1) ys) p (q ++ y ∷ [])
  rests_other y l at = rw (one_more ys j y l at) (rw (append-nil (take i xs), append-nil p) at (behind [] (y ∷ [])))

  -- with all from there on
  pub rests_whole : AreRests xs ys (p ++ take (length xs - i) (drop i xs)) (q ++ take (length ys - j) (drop j ys))
  rests_whole =
      let left : (zs : List X) (k : ℕ) → take (length zs - k) (drop k zs) ≡ drop k zs =
      λ zs k. take_all (length zs - k) (drop k zs) (omega (arith, length-drop k zs)) in
      rw (left xs i, left ys j) (rw (take-append-drop i xs, take-append-drop j ys) at (behind (drop i xs) (drop j ys)))

-- Names.

-- what is left of the standings of a day is of flights of its own
pub left_apart : (d : DayRecord) (plan : Plan) (same rest : List Standing) → IsSound d → IsDayPlan d plan
    → IsPermutation (same ++ rest) (standings_of d plan) → IsDistinct same_name (map flight_name rest)
left_apart d plan same rest sound of_day is =
    let whole = standings_of d plan in
    let apart = standings_apart d plan sound.airport.names sound.names of_day in
    let all = IsDistinct-IsPermutation same_name same_flips _ _
    (IsPermutation-map flight_name whole (same ++ rest) (IsPermutation-sym (same ++ rest) whole is)) apart in
    distinct_right same_name (map flight_name same) (map flight_name rest) (subst (IsDistinct same_name) (map-append flight_name same rest) all)

-- Changes.

module _ (day : CalendarDate) where
  pub told_alike : (s t : Standing) → s ≡ t → is_same_told day s t ≡ true
  told_alike s t e = and_from _ _ (is_same _ _ (ap flight_name e)) (is_same _ _ (ap (standing_line day) e))

  told_by_none : (same rest : List Standing) (s : Standing) → IsDistinct same_name (map flight_name (same ++ rest))
      → Contains rest s → is_told day same s ≡ false
  told_by_none same rest s apart i = any_without (λ t. is_same_told day t s) same (λ t j.
      let names = subst (IsDistinct same_name) (map-append flight_name same rest) apart in
      unlike day t s
      (apart_from_rest same_name (map flight_name same) (map flight_name rest) (flight_name t) (flight_name s) names
      (contains_map flight_name same t j) (contains_map flight_name rest s i)))

  -- the changes between two lists are those between what is left of them
  pub changes_left : (first second before after : List Standing) → IsDistinct same_name (map flight_name second) → AreRests first second before after
      → IsPermutation (changes day first second) (changes day before after)
  changes_left first second before after apart are =
      let same = are.same in
      let new : Standing → Bool = λ s. not (is_told day first s) in
      let split : (s : Standing) → is_told day first s ≡ (is_told day same s || is_told day before s) = λ s.
      let test : Standing → Bool = λ t. is_same_told day t s in
      sym (list_any-IsPermutation test (same ++ before) first are.of_one) ∙ list_any-append test same before in
      let whole = IsDistinct-IsPermutation same_name same_flips _ _
      (IsPermutation-map flight_name second (same ++ after) (IsPermutation-sym (same ++ after) second are.of_other)) apart in
      let one : IsPermutation (filter new second) (filter new (same ++ after)) =
      IsPermutation-filter new second (same ++ after) (IsPermutation-sym (same ++ after) second are.of_other) in
      let told_itself : (s : Standing) → Contains same s → is_told day same s ≡ true =
      λ s i. any_with (λ t. is_same_told day t s) same s i (told_alike s s refl) in
      let none =
      filter_none new same (λ s i. ap not (split s ∙ ap (λ b. b || is_told day before s) (told_itself s i))) in
      let rest : filter new after ≡ changes day before after = filter_same new (λ s. not (is_told day before s)) after (λ s i.
      ap not (split s ∙ ap (λ b. b || is_told day before s) (told_by_none same after s whole i))) in
      subst (IsPermutation (filter new second)) (filter-append new same after ∙ (λ i. none i ++ rest i)) one

  -- and those between the lists in another order
  pub changes_permuted : (before told after items : List Standing) → IsPermutation before told → IsPermutation after items
      → IsPermutation (changes day before after) (changes day told items)
  changes_permuted before told after items p q =
      let new : Standing → Bool = λ s. not (is_told day before s) in
      let same : filter new items ≡ changes day told items = filter_same new (λ s. not (is_told day told s)) items (λ s i.
      ap not (list_any-IsPermutation (λ t. is_same_told day t s) before told p)) in
      subst (IsPermutation (filter new after)) same (IsPermutation-filter new after items q)

  -- the changes of standings by name are by name
  pub changes_by_name : (told items : List Standing) → IsSortedByKey flight_name name_cmp items → IsSortedByKey flight_name name_cmp (changes day told items)
  changes_by_name told items sorted = IsSortedBy-filter _ order (λ s. not (is_told day told s)) items sorted

-- what is left of the standings of a day and of another with its plan gives the changes
pub changed_to : (d next : DayRecord) (plan next_plan : Plan) → IsSound next → IsDayPlan d plan → IsDayPlan next next_plan
    → (before after changed : List Standing) → AreRests (standings_of d plan) (standings_of next next_plan) before after
    → IsPermutation (changes d.airport.day before after) changed → IsSortedByKey flight_name name_cmp changed → IsChangedTo d next changed
changed_to d next plan next_plan sound of_day of_next before after changed are all by_name =
    let first = standings_of d plan in
    let second = standings_of next next_plan in
    let apart = standings_apart next next_plan sound.airport.names sound.names of_next in
    record {
      plan = plan;
      next_plan = next_plan;
      of_day = of_day;
      of_next = of_next;
      changes = record {
        all = IsPermutation-trans _ _ _ (changes_left d.airport.day first second before after apart are) all;
        by_name = by_name;
      };
    }

-- One list of changes.

-- the day's runways have names of their own, and so have its flights
abbrev pub Own : DayRecord → Type 0
Own d = IsDistinct same_name (runway_names d.airport) × IsDistinct same_name (flights_in d.journal)

-- between two days
pub one_changed_to : (d next : DayRecord) → Own d → Own next → (x y : List Standing) → IsChangedTo d next x → IsChangedTo d next y → x ≡ y
one_changed_to d next own after x y a b =
    let plans : b.plan ≡ a.plan = one_day_plan d b.plan a.plan own.0 own.1 b.of_day a.of_day in
    let next_plans : b.next_plan ≡ a.next_plan = one_day_plan next b.next_plan a.next_plan after.0 after.1 b.of_next a.of_next in
    let changed : AreChanges d a.plan next a.next_plan y =
    subst (λ (p : Plan). AreChanges d p next a.next_plan y) plans (subst (λ (p : Plan). AreChanges d b.plan next p y) next_plans b.changes) in
    let apart = distinct_filter same_name flight_name (λ (s : Standing). not (is_told d.airport.day (standings_of d a.plan) s)) (standings_of next a.next_plan)
    (standings_apart next a.next_plan after.0 after.1 a.of_next) in
    by_name flight_name (changes d.airport.day (standings_of d a.plan) (standings_of next a.next_plan)) x y apart a.changes.all changed.all a.changes.by_name changed.by_name
