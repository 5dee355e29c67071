-- The steps to a plan: what planned flights could have, the plans of runways that stand, and the others.
use Rattle.std.proofs.Common.{[], rules, Bor, ◌≡◌, ℕ, true, cond, List, ◌∷◌, ◌++◌, Option, None, Some, refl, ◌∙◌, ap, subst, arith, map}
use Rattle.std.proofs.{Common.{filter, length}, lemmas.Grind.common_steps}
use Rattle.cdm_plan.proofs.ListWords.{is_none, All, All-head, All-tail, AllZip, Contains, cons_option, filter_map, IsPermutation}
use Rattle.cdm_plan.proofs.ListWords.{IsPermutation-append_comm, IsPermutation-append_left, IsPermutation-append_right, All-contains}
use Rattle.cdm_plan.proofs.ListWords.{All-weaker, IsPermutation-middle, IsPermutation-refl, IsPermutation-sym, IsPermutation-trans}
use Rattle.cdm_plan.proofs.ListWords.{contains_head, contains_map, Contains-permutation, contains_tail, filter_passes, filter_same}
use Rattle.cdm_plan.proofs.ListWords.{length_permutation}
use Rattle.cdm_plan.proofs.PlanWords.{DayValues, Flight, is_planned, values_of, taxi_of, RunwayRules, TaxiTimes, IsSequence, Plan}
use Rattle.cdm_plan.proofs.PlanWords.{RunwayPlan, BlockedFlight, CanSequence, IsAimed, IsAimedBy, early_among, target_for, DayRecord}
use Rattle.cdm_plan.proofs.PlanWords.{day_rules, records_in, HasParts, fixed_on, planned_of, AreKept, Together, kept_plan, asked_of}
use Rattle.cdm_plan.proofs.{PlanWords.{is_touched, kept_blocked, kept_of}, AskedLemmas.{early-parted, fixed-asked, targets-asked}}
use Rattle.cdm_plan.proofs.DayPlanLemmas.{HasSequence, day_plan, few_records, has_sequence, record_names_differ, targets_at}
use Rattle.cdm_plan.proofs.{NameLemmas.by_name_differ, OnePlanLemmas.one_day_plan, PartLemmas.{All-given_by, AllZip-lent, few_parts}}
use Rattle.cdm_plan.proofs.PlanningLemmas.{aim_list, aimed, aimed_are, aims_mean, fixed-gone, blocked-among, blocked_early, can_sequence}
use Rattle.cdm_plan.{proofs.PlanningLemmas.{early-aims, planned_are, targets-among}, specs.declared.aimed.Aimed.Aimed}
use Rattle.cdm_plan.specs.declared.{aimed.Asked.Asked, touched.Touched.Touched, work.Work.Work}
use Rattle.cdm_plan.specs.inner.Work.{HasExot, IsWork}

abbrev now : Bor Flight → Flight
now f = f.now

abbrev times_of : DayRecord → TaxiTimes
times_of d = taxi_of d.airport d.journal

abbrev flights_of : DayRecord → List Flight
flights_of d = records_in d.airport d.journal

-- what the asked flights of the day could have
abbrev aims_of : DayRecord → Touched → List Aimed
aims_of d t = map (aimed (times_of d) (values_of d.journal)) (planned_of (asked_of t (flights_of d)))

-- a runway has no plan that stands where it was touched, if each that was not touched has one
none_stands : (t : Touched) (old : List RunwayPlan) (r : List ℕ) → (kept_plan t old r ≡ None → is_touched t r ≡ true)
    → is_touched t r ≡ is_none (kept_plan t old r)
none_stands t old r h = grind (arith, common_steps)

module _ {X Y : Type 0} (R : X → Y → Type 0) (stands : X → Option Y) where
  -- what stands, and what was made where nothing does, goes with all
  merged : (xs : List X) (made : List Y) → ((x : X) (y : Y) → Contains xs x → stands x ≡ Some y → R x y) → AllZip R (filter (λ x. is_none (stands x)) xs) made
      → (all : List Y) × AllZip R xs all × IsPermutation all (filter_map stands xs ++ made)
  merged [] [] right each = ([], tt, IsPermutation-refl [])
  merged [] (y ∷ made) right each = absurd each
  merged (x ∷ xs) made right each = by (stands x) refl made each (λ ys h. merged xs ys (λ z y i. right z y (contains_tail x xs z i)) h)
    where
      by : (o : Option Y) → stands x ≡ o → (made : List Y)
          → AllZip R (cond (is_none o) (x ∷ filter (λ x. is_none (stands x)) xs) (filter (λ x. is_none (stands x)) xs)) made
          → ((ys : List Y) → AllZip R (filter (λ x. is_none (stands x)) xs) ys
          → (all : List Y) × AllZip R xs all × IsPermutation all (filter_map stands xs ++ ys))
          → (all : List Y) × AllZip R (x ∷ xs) all × IsPermutation all (cons_option o (filter_map stands xs) ++ made)
      by (Some y) e made each rest =
          let w = rest made each in
          (y ∷ w.0, (right x y (contains_head x xs) e, w.1), IsPermutation-append_right (y ∷ []) w.0 (filter_map stands xs ++ made) w.2)
      by None e [] each rest = absurd each
      by None e (y ∷ made) each rest =
          let w = rest made each.1 in
          let kept = filter_map stands xs in (
            y ∷ w.0,
            (each.0, w.1),
            IsPermutation-trans (y ∷ w.0) (y ∷ (kept ++ made)) (kept ++ y ∷ made) (IsPermutation-append_right (y ∷ []) w.0 (kept ++ made) w.2)
                (IsPermutation-sym (kept ++ y ∷ made) (y ∷ (kept ++ made)) (IsPermutation-middle kept y made)),
          )

-- what goes together goes together in a way that is weaker at these elements
AllZip-weaker_at : {X Y : Type 0} (R S : X → Y → Type 0) (xs : List X) (ys : List Y) → ((x : X) (y : Y) → Contains xs x → R x y → S x y) → AllZip R xs ys
    → AllZip S xs ys
AllZip-weaker_at R S [] [] h all = tt
AllZip-weaker_at R S (x ∷ xs) (y ∷ ys) h all = grind (arith, common_steps, AllZip-weaker_at R S xs ys (λ u v i. h u v (contains_tail x xs u i)) all.1)
AllZip-weaker_at R S _ _ h all = absurd all

-- parts of a plan with the early blocked flights in another order
HasParts-reordered : (early others : List BlockedFlight) (plans : List RunwayPlan) (plan : Plan) → IsPermutation others early
    → HasParts early plans plan → HasParts others plans plan
HasParts-reordered early others plans plan same parts = search (rules, IsPermutation-trans, IsPermutation-append_left)

-- what the flights of asked ones could have by their taxi-out times
aimed_by : (times : TaxiTimes) (values : DayValues) (asked : List Asked) (aims : List Aimed) → All (HasExot times) asked
    → AllZip (λ a out. IsAimedBy values a.flight.now a.exot out) asked aims → AllZip (IsAimed times values) (map (λ a. a.flight.now) asked) aims
aimed_by times values [] [] has all = tt
aimed_by times values (a ∷ asked) (out ∷ aims) has all =
    search (rules, All-head, All-tail, aimed_by times values asked aims (All-tail (HasExot times) a asked has) all.1)
aimed_by times values _ _ has all = absurd all

module _ {d : DayRecord} {t : Touched} {w : Work} (is : IsWork d t w) where
  -- all the asked flights are planned, and have their taxi-out times by the journal
  pub work_planned : All (λ a. (is_planned a.flight.now.status ≡ true) × ((times : TaxiTimes) × HasExot times a)) w.asked.items
  work_planned =
      let flight : Asked → Flight = λ a. a.flight.now in
      let planned = All-given_by flight (λ f. is_planned f.status ≡ true) w.asked.items (rw is.asked (planned_are (asked_of t (flights_of d)))) in
      λ k a less. (planned k a less, (times_of d, is.exots k a less))

  -- the runways that are left were touched
  left_touched : All (λ r. is_touched t r.now.name ≡ true) w.left.items
  left_touched = rw is.left (filter_passes (λ (r : Bor RunwayRules). is_touched t r.now.name) w.runways.items)

  module _ {values : DayValues} (values_is : values ≡ values_of d.journal) (aims : List Aimed)
      (zipped : AllZip (λ a out. IsAimedBy values a.flight.now a.exot out) w.asked.items aims) where
    -- what they could have is what the journal says of it
    aims_are : aims ≡ aims_of d t
    aims_are =
        let flight : Asked → Flight = λ a. a.flight.now in
        aimed_are (times_of d) values (map flight w.asked.items) aims (aimed_by (times_of d) values w.asked.items aims is.exots zipped)
        ∙ (λ i. map (aimed (times_of d) (values_is i)) (is.asked i))

    targets_are : (r : List ℕ) → is_touched t r ≡ true → filter_map (target_for r) aims ≡ targets_at d r
    targets_are r h = search (rules, aims_are, targets-among, targets-asked)

    -- each runway that is left can be sequenced
    pub work_can : All (λ r. CanSequence (fixed_on r.now.name (map now w.gone.items)) (filter_map (target_for r.now.name) aims)) w.left.items
    work_can = All-weaker (λ (r : Bor RunwayRules). is_touched t r.now.name ≡ true)
        (λ r. CanSequence (fixed_on r.now.name (map now w.gone.items)) (filter_map (target_for r.now.name) aims)) (λ r h.
        rw (targets_are r.now.name h, is.gone, fixed-gone r.now.name (asked_of t (flights_of d)), fixed-asked t r.now.name h (flights_of d))
        (can_sequence (times_of d) (values_of d.journal) (flights_of d) (record_names_differ d is.sound.names) (few_records d is.sound) r.now.name))
        w.left.items left_touched

    -- the flights that are blocked early are among the asked ones, or were so before
    work_early : {old : List RunwayPlan} {blocked : List BlockedFlight} → AreKept d t old blocked
        → IsPermutation (blocked_early (flights_of d) (times_of d) (values_of d.journal)) (early_among aims ++ kept_blocked d t blocked)
    work_early {blocked = blocked} kept =
        let fs = flights_of d in
        let times = times_of d in
        let values = values_of d.journal in
        let asked = blocked_early (asked_of t fs) times values in
        let same : early_among aims ≡ asked = ap early_among aims_are ∙ blocked-among times values (asked_of t fs) in
        let stands : IsPermutation (blocked_early (kept_of t fs) times values) (kept_blocked d t blocked) =
        subst (λ (bs : List BlockedFlight). IsPermutation bs (kept_blocked d t blocked)) (early-aims times values (kept_of t fs))
        (kept.early (aim_list (kept_of t fs) times values) (aims_mean times values (planned_of (kept_of t fs)))) in
        rw same (IsPermutation-trans _ _ _ (early-parted t times values fs)
        (IsPermutation-trans _ _ _ (IsPermutation-append_comm (blocked_early (kept_of t fs) times values) asked) (IsPermutation-append_right asked _ _ stands)))

    -- what stands of a former plan, and the plans that were made, make the day's
    pub work_done : {old : List RunwayPlan} {blocked : List BlockedFlight} (made : List RunwayPlan) → AreKept d t old blocked
        → AllZip (λ r p. IsSequence r.now (fixed_on r.now.name (map now w.gone.items)) (filter_map (target_for r.now.name) aims) p) w.left.items made
        → Together d (early_among aims ++ kept_blocked d t blocked) (filter_map (λ r. kept_plan t old r.now.name) w.runways.items ++ made)
    work_done {old} {blocked} made kept each =
        let R : Bor RunwayRules → RunwayPlan → Type 0 = λ r p. HasSequence d r.now p in
        let stands : Bor RunwayRules → Option RunwayPlan = λ r. kept_plan t old r.now.name in
        let runways = w.runways.items in
        let rule : Bor RunwayRules → RunwayRules = λ r. r.now in
        let rules = map rule runways in
        let of_day : (r : Bor RunwayRules) → Contains runways r → Contains (day_rules d) r.now = λ r i.
        Contains-permutation rules (day_rules d) r.now (IsPermutation-sym (day_rules d) rules is.runways.all) (contains_map rule runways r i) in
        let left : w.left.items ≡ filter (λ r. is_none (stands r)) runways =
        is.left ∙ filter_same (λ r. is_touched t r.now.name) (λ r. is_none (stands r)) runways (λ r i. none_stands t old r.now.name (kept.all r.now (of_day r i))) in
        let right : (r : Bor RunwayRules) (p : RunwayPlan) → Contains w.left.items r → IsSequence r.now (fixed_on r.now.name (map now w.gone.items))
        (filter_map (target_for r.now.name) aims) p → R r p = λ r p i h.
        let is_left = All-contains (λ (r : Bor RunwayRules). is_touched t r.now.name ≡ true) w.left.items r left_touched i in
        rw (targets_are r.now.name is_left, is.gone, fixed-gone r.now.name (asked_of t (flights_of d)), fixed-asked t r.now.name is_left (flights_of d)) at h in
        let new = rw left at (AllZip-weaker_at _ R w.left.items made right each) in
        let zip = merged R stands runways made (λ r p i e. has_sequence d r.now p (kept.right r.now p (of_day r i) e)) new in
        let whole : AllZip (HasSequence d) rules zip.0 = AllZip-lent (HasSequence d) runways zip.0 zip.1 in
        let early = work_early kept in
        let long : length (early_among aims ++ kept_blocked d t blocked) ≡ length (blocked_early (flights_of d) (times_of d) (values_of d.journal)) =
        length_permutation _ _ early in
        let names = by_name_differ d rules is.sound.airport is.runways in
        let few = few_parts (times_of d) (values_of d.journal) (flights_of d) rules zip.0
        (filter_map stands runways ++ made) whole zip.2 names in
        record {
          few = omega (arith, few, few_records d is.sound, long);
          made = λ plan clock parts.
              let plan_is =
              day_plan d rules zip.0 (filter_map stands runways ++ made) plan is.sound.airport is.runways.all whole zip.2 clock
              (HasParts-reordered _ _ (filter_map stands runways ++ made) plan early parts) in
              record {
                sound = is.sound;
                of_day = plan_is;
                only = λ other other_is. one_day_plan d other plan is.sound.airport.names is.sound.names other_is plan_is;
              };
        }
