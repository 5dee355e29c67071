-- What flights give that are asked, and those that need not be.
use Rattle.std.proofs.lemmas.Grind.{common_steps}
use Rattle.std.proofs.Common.{◌≡◌, ℕ, Bool, true, false, ◌&&◌, not, List, ◌++◌, None, Some, refl, sym, ◌∙◌, ap, arith, rules}
use Rattle.cdm_plan.proofs.ListWords.{if◌then◌else◌, option_map_or, filter_map, filter_map-append, filter_map-filter, if_so, IsPermutation}
use Rattle.cdm_plan.proofs.ListWords.{IsPermutation-filter_both, IsPermutation-filter_map, false_from_ne_true}
use Rattle.cdm_plan.proofs.PlanWords.{DayValues, Flight, TaxiTimes, fixed_on, fixed_slot, asked_of, counts, is_on, is_touched, is_untouched}
use Rattle.cdm_plan.proofs.{PlanWords.{kept_of, targets_on}, JournalFacts.some_named}
use Rattle.cdm_plan.proofs.PlanningLemmas.{blocked_early, early-given, early_at, no_target_at, targets_of, targets_on-given}
use Rattle.cdm_plan.specs.declared.touched.Touched.{Touched}

-- both of two tests hold
pub both : (a b : Bool) → (a && b) ≡ true → (a ≡ true) × (b ≡ true)
both true b h = (refl, h)
both false b h = cc

-- a flight that need not be asked counts on its runway
pub untouched_counts : (t : Touched) (f : Flight) → is_untouched t f ≡ true → counts f ≡ true
untouched_counts t f h = grind (arith, common_steps)

-- which was not touched
pub untouched_runway : (t : Touched) (f : Flight) → is_untouched t f ≡ true → (r : List ℕ) × (f.runway ≡ Some r) × (is_touched t r ≡ false)
untouched_runway t f h = grind (arith, common_steps)

-- a flight that counts on a runway that was not touched
pub untouched_on : (t : Touched) (f : Flight) (r : List ℕ) → counts f ≡ true → f.runway ≡ Some r → is_touched t r ≡ false → is_untouched t f ≡ true
untouched_on t f r c e h = (λ i. option_map_or (λ s. not (is_touched t s)) (if c i then e i else None) false) ∙ ap not h

-- a flight that need not be asked is on no touched runway
off_touched : (t : Touched) (r : List ℕ) → is_touched t r ≡ true → (f : Flight) → is_untouched t f ≡ true → is_on r f ≡ false
off_touched t r h f k = search (rules, untouched_runway, false_from_ne_true, some_named)

-- the fixed flights of a touched runway are among the flights that are asked
pub fixed-asked : (t : Touched) (r : List ℕ) → is_touched t r ≡ true → (fs : List Flight) → fixed_on r (asked_of t fs) ≡ fixed_on r fs
unfolding fixed_on
fixed-asked t r h fs =
    filter_map-filter fixed_slot (is_on r) (asked_of t fs)
    ∙ (filter_map-filter (λ f. if_so (is_on r f) (fixed_slot f)) (λ f. not (is_untouched t f)) fs
    ∙ ((λ i. filter_map (λ f. all f i) fs) ∙ sym (filter_map-filter fixed_slot (is_on r) fs)))
  where
    by : (f : Flight) (b : Bool) → is_untouched t f ≡ b → if_so (not b) (if_so (is_on r f) (fixed_slot f)) ≡ if_so (is_on r f) (fixed_slot f)
    by f false k = refl
    by f true k = sym (ap (λ on. if_so on (fixed_slot f)) (off_touched t r h f k))

    all : (f : Flight) → if_so (not (is_untouched t f)) (if_so (is_on r f) (fixed_slot f)) ≡ if_so (is_on r f) (fixed_slot f)
    all f = by f (is_untouched t f) refl

-- the targets of a touched runway are those of the flights that are asked
pub targets-asked : (t : Touched) (r : List ℕ) → is_touched t r ≡ true → (times : TaxiTimes) (values : DayValues) (fs : List Flight)
    → targets_on r (targets_of (asked_of t fs) times values) ≡ targets_on r (targets_of fs times values)
targets-asked t r h times values fs = search (rules, targets_on-given, filter_map-filter, no_target_at, off_touched)

-- the flights that are blocked early are those that need not be asked, and others that are asked
pub early-parted : (t : Touched) (times : TaxiTimes) (values : DayValues) (fs : List Flight)
    → IsPermutation (blocked_early fs times values) (blocked_early (kept_of t fs) times values ++ blocked_early (asked_of t fs) times values)
early-parted t times values fs =
    let h = early_at times values in
    rw (early-given times values fs, early-given times values (kept_of t fs), early-given times values (asked_of t fs), ← filter_map-append h (kept_of t fs) (asked_of t fs))
    (IsPermutation-filter_map h fs (kept_of t fs ++ asked_of t fs) (IsPermutation-filter_both (is_untouched t) (λ f. not (is_untouched t f)) (λ f. refl) fs))
