-- One runway's placing in a day, from that of the next day.
use Rattle.std.proofs.Common.{◌≡◌, ℕ, ◌+◌, ◌-◌, ◌<◌, ◌≤◌, max, Bool, true, false, cond, List, Option, None, Some, All, IfSome, Contains, refl, sym, ap, ◌∙◌, subst, arith, map, filter, filter_map, find}
use Rattle.std.proofs.lemmas.Bool.Decides.{nat_tests}
use Rattle.std.proofs.lemmas.List.Elements.{All-contains}
use Rattle.std.specs.Option.{option_and_then, option_map}
use Rattle.std.specs.List.{IsDistinct}
use Rattle.std.specs.Ordering.{is_lt, nat_cmp, ordering_then}
use Rattle.cdm_time.specs.Windows.{window_has}
use Rattle.cdm_flight.proofs.Lists.{All-given, if_so, one_of_key}
use Rattle.cdm_flight.specs.declared.flight.Flight.{Flight}
use Rattle.cdm_flight.specs.declared.flight.Status.{Status}
use Rattle.cdm_flight.specs.declared.flight.Status.TheVariants as status
use Rattle.cdm_flight.specs.declared.group.Group.{Group}
use Rattle.cdm_flight.specs.declared.values.DayValues.{DayValues}
use Rattle.cdm_flight.specs.Names.{name_cmp, same_name}
use Rattle.cdm_flight.specs.Order.{is_before}
use Rattle.cdm_flight.specs.Record.{is_planned}
use Rattle.cdm_flight.specs.Taxi.{stand_minutes}
use Rattle.cdm_flight.specs.Spacing.{occupancy_of}
use Rattle.cdm_flight.specs.declared.spacing.Spacing.{Spacing}
use Rattle.cdm_runway.specs.Rules.{RunwayRules}
use Rattle.cdm_runway.specs.Room.{IsFree, taken_by}
use Rattle.cdm_runway.specs.declared.load.Taken.{Taken}
use Rattle.cdm_sequence.specs.Aims.{IsAim, TaxiTimes}
use Rattle.cdm_sequence.specs.Fixed.{takeoffs}
use Rattle.cdm_sequence.specs.Plan.{IsLeast, IsPlan, Placing, taken_before, taken_of}
use Rattle.cdm_sequence.specs.declared.target.Target.{Target}
use Rattle.cdm_sequence.specs.declared.aims.AimResult.{AimResult}
use Rattle.cdm_sequence.specs.declared.aims.AimResult.TheVariants.{Ready, Early}
use Rattle.cdm_sequence.proofs.AimLemmas.{aim_means, aim_of}
use Rattle.cdm_sequence.proofs.OrderLemmas.{is_same, same_flips}
use Rattle.cdm_sequence.proofs.PlanLemmas.{plan_one}
use Rattle.cdm_plan.specs.Planning.{fixed_on, target_in, targets_on}
use Rattle.cdm_plan.specs.inner.Aimed.{if_on}
use Rattle.cdm_plan.proofs.NameLemmas.{find_only}
use Rattle.cdm_plan.proofs.PlanningLemmas.{target_at, targets_of, targets_on-given}
use Rattle.cdm_change.specs.NextDay.{next_flight, next_status}
use Rattle.cdm_change.proofs.AimLemmas.{FitsNext, IsNextTarget, aims_fit, key_parts}
use Rattle.cdm_change.proofs.FixedLemmas.{StandsBy, fixed_alike}
use Rattle.cdm_change.proofs.ListLemmas.{contains_given}
use Rattle.cdm_change.proofs.RoomLemmas.{Agrees, AreAlike, alike_append, free_before, free_next, given_alike}
use Rattle.cdm_change.proofs.RulesLemmas.{IsNextRunway}
use Rattle.cdm_change.proofs.SiftLemmas.{passed-given, passing, sifted-given}

-- The order of sequence is the same.

cmp_later : (m n : ℕ) → nat_cmp (m + 1440) (n + 1440) ≡ nat_cmp m n
cmp_later m n = grind (arith, nat_tests)

pub same_order : (g f g' f' : Target) → IsNextTarget g g' → IsNextTarget f f' → is_before g.key f.key ≡ is_before g'.key f'.key
unfolding is_before
same_order g f g' f' a b = λ i. is_lt (ordering_then (nat_cmp (sym a.priority i) (sym b.priority i))
    (ordering_then (((λ j. nat_cmp (a.tobt j) (b.tobt j)) ∙ cmp_later g'.key.tobt f'.key.tobt) i) (name_cmp (sym a.name i) (sym b.name i))))

planned_next : (x : Status) → is_planned (next_status x) ≡ is_planned x
planned_next status.Planned = refl
planned_next (status.OffBlock aobt exot) = refl
planned_next (status.Airborne aobt atot) = refl
planned_next status.Cancelled = refl

-- One runway: its flights in a day, and in the next one, of which this is the plan, with no take-off past the day's horizon.
module _ (r s : RunwayRules) (next : IsNextRunway r s) (short : (group : Group) → occupancy_of r.spacing group ≤ 60) (times : TaxiTimes) (values : DayValues) (n : List ℕ) (fs : List Flight) (own : IsDistinct same_name (map (λ f. f.name) fs)) (stay : Flight → Bool)
    (stand : (f : Flight) → Contains fs f → StandsBy values.clock (stay f) f f.status) (placing : Placing) where
  abbrev next_values : DayValues
  next_values = record values { clock = values.clock - 1440 }

  abbrev after : List Flight
  after = map next_flight (filter stay fs)

  abbrev targets : List Target
  targets = targets_on n (targets_of fs times values)

  abbrev next_targets : List Target
  next_targets = targets_on n (targets_of after times next_values)

  abbrev fixed : List Taken
  fixed = takeoffs r (fixed_on n fs)

  abbrev next_fixed : List Taken
  next_fixed = takeoffs s (fixed_on n after)

  abbrev aim : Flight → AimResult
  aim f = aim_of f times values

  abbrev next_aim : Flight → AimResult
  next_aim f = aim_of (next_flight f) times next_values

  -- A planned flight stays, and could have there what it could have here.
  planned_by : (f : Flight) (x : Status) → StandsBy values.clock (stay f) f x → is_planned x ≡ true → (stay f ≡ true) × FitsNext (aim f) (next_aim f)
  planned_by f status.Planned stands e = (stands.0, aims_fit f times values stands.1 stands.2)
  planned_by f (status.OffBlock aobt exot) stands e = cc e
  planned_by f (status.Airborne aobt atot) stands e = cc e
  planned_by f status.Cancelled stands e = cc e

  pub planned_fit : (f : Flight) → Contains fs f → is_planned f.status ≡ true → (stay f ≡ true) × FitsNext (aim f) (next_aim f)
  planned_fit f i e = planned_by f f.status (stand f i) e

  -- The targets, flight by flight.

  abbrev target_here : Flight → Option Target
  target_here f = target_at n times values f

  abbrev target_there : Flight → Option Target
  target_there f = if_so (stay f) (target_at n times next_values (next_flight f))

  targets-here : targets ≡ filter_map target_here fs
  targets-here = targets_on-given n times values fs

  targets-there : next_targets ≡ filter_map target_there fs
  targets-there = targets_on-given n times next_values after ∙ sifted-given stay next_flight (target_at n times next_values) fs

  -- The placing of the day: each flight a day later than its target in the next one.

  abbrev minute_there : Flight → Option ℕ
  minute_there f = option_and_then placing (target_in (next_aim f))

  abbrev day_later : Option ℕ → Option ℕ
  day_later o = option_map (λ m. m + 1440) o

  pub shifted : Placing
  shifted t = day_later (option_and_then minute_there (find (λ f. same_name f.name t.key.name) fs))

  aim_name : (f : Flight) (t : Target) → aim f ≡ Ready t → t.key.name ≡ f.name
  aim_name f t e =
      let is : IsAim f times values (Ready t) = subst (IsAim f times values) e (aim_means f times values) in
      (key_parts f.priority f.name f.tobt t.key is.key).2

  pub shifted_at : (f : Flight) (t : Target) → Contains fs f → aim f ≡ Ready t → shifted t ≡ day_later (minute_there f)
  unfolding shifted
  shifted_at f t i e =
      let name = aim_name f t e in
      ap (λ (o : Option Flight). day_later (option_and_then minute_there o))
      (find_only (λ (x : Flight). same_name x.name t.key.name) fs f i (is_same f.name t.key.name (sym name))
      (λ y j h. one_of_key same_name same_flips (λ (x : Flight). x.name) fs y f own j i (subst (λ (k : List ℕ). same_name y.name k ≡ true) name h)))

  module _ (plan : IsPlan s next_fixed next_targets placing) (early : (u : Target) → Contains next_targets u → IfSome (placing u) (λ m. m < 1440)) where
    -- A target that has no minute up to where the horizon ended gets none.
    far_by : (u : Target) (taken : List Taken) (o : Option ℕ) → IsLeast s taken u o → IfSome o (λ m. m < 1440) → 1440 ≤ u.window.start → o ≡ None
    far_by u taken None least soon far = refl
    far_by u taken (Some m) least soon far = absurd (omega (arith, least.after, soon, far))

    pub far_none : (u : Target) → Contains next_targets u → 1440 ≤ u.window.start → placing u ≡ None
    far_none u i far =
        let taken = taken_before s next_fixed next_targets placing u in
        far_by u taken (placing u) (All-contains (λ u. IsLeast s (taken_before s next_fixed next_targets placing u) u (placing u)) next_targets u plan i) (early u i) far

    -- The target of a flight is one of the runway's.
    pub there : (f : Flight) (u : Target) → Contains fs f → is_planned f.status ≡ true → stay f ≡ true → next_aim f ≡ Ready u → same_name u.runway n ≡ true
        → Contains next_targets u
    there f u i planned stays is on =
        subst (λ (us : List Target). Contains us u) (sym targets-there)
        (contains_given target_there fs f u i
        ((λ j. if_so (stays j) (if_so ((planned_next f.status ∙ planned) j) (if_on n (target_in (is j))))) ∙ ap (λ b. cond b (Some u) None) on))

    -- What a flight takes before a target's turn.
    module _ (t t' : Target) (same : IsNextTarget t t') (m : ℕ) where
      abbrev first : Target → Bool
      first g = is_before g.key t.key

      abbrev first_there : Target → Bool
      first_there g = is_before g.key t'.key

      takes : (g g' : Target) → IsNextTarget g g' → (o : Option ℕ) → Agrees r.cell m (option_map (taken_by r g.group) (day_later o)) (option_map (taken_by s g'.group) o)
      takes g g' is None = tt
      takes g g' is (Some k) =
          (refl, (λ i. occupancy_of r.spacing (sym is.group i)) ∙ ap (λ (x : Spacing). occupancy_of x g'.group) (sym next.spacing))

      agree_if : (b : Bool) (o p : Option Taken) → Agrees r.cell m o p → Agrees r.cell m (if_so b o) (if_so b p)
      agree_if true o p agrees = agrees
      agree_if false o p agrees = tt

      both : (g g' : Target) → IsNextTarget g g' → shifted g ≡ day_later (placing g') → (on : Bool)
          → Agrees r.cell m (passing first (taken_of r shifted) (cond on (Some g) None)) (passing first_there (taken_of s placing) (cond on (Some g') None))
      both g g' is e false = tt
      both g g' is e true =
          let agrees : Agrees r.cell m (taken_of r shifted g) (taken_of s placing g') =
          subst (λ (o : Option ℕ). Agrees r.cell m (option_map (taken_by r g.group) o) (taken_of s placing g')) (sym e) (takes g g' is (placing g')) in
          subst (λ (b : Bool). Agrees r.cell m (if_so (first g) (taken_of r shifted g)) (if_so b (taken_of s placing g'))) (same_order g t g' t' is same)
          (agree_if (first g) (taken_of r shifted g) (taken_of s placing g') agrees)

      alone : (u : Target) (on : Bool) → (on ≡ true → placing u ≡ None) → Agrees r.cell m None (passing first_there (taken_of s placing) (cond on (Some u) None))
      alone u false none = tt
      alone u true none = by (first_there u)
        where
          by : (b : Bool) → Agrees r.cell m None (if_so b (taken_of s placing u))
          by true = subst (λ (o : Option ℕ). Agrees r.cell m None (option_map (taken_by s u.group) o)) (sym (none refl)) tt
          by false = tt

      one_planned : (f : Flight) → Contains fs f → is_planned f.status ≡ true → stay f ≡ true → (a b : AimResult) → aim f ≡ a → next_aim f ≡ b → FitsNext a b
          → Agrees r.cell m (passing first (taken_of r shifted) (if_on n (target_in a))) (passing first_there (taken_of s placing) (if_on n (target_in b)))
      one_planned f i planned stays (Ready g) (Ready g') is is' fits =
          let value : shifted g ≡ day_later (placing g') = shifted_at f g i is ∙ ap (λ (x : AimResult). day_later (option_and_then placing (target_in x))) is' in
          subst (λ (k : List ℕ). Agrees r.cell m (passing first (taken_of r shifted) (if_on n (Some g)))
          (passing first_there (taken_of s placing) (cond (same_name k n) (Some g') None))) (sym fits.runway) (both g g' fits value (same_name g.runway n))
      one_planned f i planned stays (Ready g) (Early rule) is is' fits = absurd fits
      one_planned f i planned stays (Early rule) (Ready u) is is' fits =
          alone u (same_name u.runway n) (λ on. far_none u (there f u i planned stays is' on) fits)
      one_planned f i planned stays (Early rule) (Early other) is is' fits = tt

      one_flight : (f : Flight) → Contains fs f → (b : Bool) → is_planned f.status ≡ b
          → Agrees r.cell m (passing first (taken_of r shifted) (if_so b (if_on n (target_in (aim f)))))
          (passing first_there (taken_of s placing) (if_so (stay f) (if_so b (if_on n (target_in (next_aim f))))))
      one_flight f i true e =
          let known = planned_fit f i e in
          subst (λ (b : Bool). Agrees r.cell m (passing first (taken_of r shifted) (if_on n (target_in (aim f))))
          (passing first_there (taken_of s placing) (if_so b (if_on n (target_in (next_aim f)))))) (sym known.0)
          (one_planned f i e known.0 (aim f) (next_aim f) refl refl known.1)
      one_flight f i false e = by (stay f)
        where
          by : (b : Bool) → Agrees r.cell m None (passing first_there (taken_of s placing) (if_so b None))
          by true = tt
          by false = tt

      abbrev given_here : Flight → Option Taken
      given_here f = passing first (taken_of r shifted) (target_here f)

      abbrev given_there : Flight → Option Taken
      given_there f = passing first_there (taken_of s placing) (target_there f)

      each_flight : (f : Flight) → Contains fs f → Agrees r.cell m (given_here f) (given_there f)
      each_flight f i =
          subst (λ (b : Bool). Agrees r.cell m (given_here f) (passing first_there (taken_of s placing) (if_so (stay f) (if_so b (if_on n (target_in (next_aim f)))))))
          (sym (planned_next f.status)) (one_flight f i (is_planned f.status) refl)

      -- What is taken when the target's turn comes is alike.
      pub taken_alike : values.clock ≤ m + 1440 → AreAlike r s m (taken_before r fixed targets shifted t) (taken_before s next_fixed next_targets placing t')
      taken_alike here =
          let before : filter_map (taken_of r shifted) (filter first targets) ≡ filter_map given_here fs =
          ap (λ (ts : List Target). filter_map (taken_of r shifted) (filter first ts)) targets-here ∙ passed-given first (taken_of r shifted) target_here fs in
          let later : filter_map (taken_of s placing) (filter first_there next_targets) ≡ filter_map given_there fs =
          ap (λ (ts : List Target). filter_map (taken_of s placing) (filter first_there ts)) targets-there ∙ passed-given first_there (taken_of s placing) target_there fs in
          let given = subst (λ (ts : List Taken). AreAlike r s m ts (filter_map (taken_of s placing) (filter first_there next_targets))) (sym before)
          (subst (AreAlike r s m (filter_map given_here fs)) (sym later) (given_alike r s next m given_here given_there fs each_flight)) in
          alike_append r s next m fixed next_fixed (filter_map (taken_of r shifted) (filter first targets)) (filter_map (taken_of s placing) (filter first_there next_targets))
          (fixed_alike r s next short values.clock m here stay fs stand n) given

    has : (start end k : ℕ) → start ≤ k → k < end → window_has start end k ≡ true
    has start end k from to = grind (arith, nat_tests)

    had : (start end k : ℕ) → window_has start end k ≡ true → (start ≤ k) × (k < end)
    had start end k h = (grind (arith, nat_tests), grind (arith, nat_tests))

    -- A minute that the next day gives is the earliest of the day, a day later; and where it gives none, there is none.
    module _ (t t' : Target) (same : IsNextTarget t t') (now : values.clock ≤ t.ready) (taken taken' : List Taken)
        (alike : (m : ℕ) → values.clock ≤ m + 1440 → AreAlike r s m taken taken') where
      -- a free minute of the day is one of the next day
      free_there : (k : ℕ) → t.window.start ≤ k → k < t.window.end → IsFree r taken t.group k
          → (m : ℕ) × (m + 1440 ≡ k) × (t'.window.start ≤ m) × (m < t'.window.end) × IsFree s taken' t'.group m
      free_there k from to free =
          let inside = has t.window.start t.window.end k from to in
          let late = same.later k inside in
          let m = k - 1440 in
          let at : m + 1440 ≡ k = omega (arith, late.0, same.ready) in
          let soon : m < 1440 = omega (arith, late.1, at) in
          let here : values.clock ≤ m + 1440 = omega (arith, late.0, now, at) in
          let bounds = had t'.window.start t'.window.end m (same.minutes m soon ∙ ap (λ (j : ℕ). window_has t.window.start t.window.end j) at ∙ inside) in
          let free_at : IsFree r taken t.group (m + 1440) = subst (IsFree r taken t.group) (sym at) free in
          let there : IsFree s taken' t.group m = free_next r s next m soon taken taken' (alike m here) t.group free_at in
          (m, at, bounds.0, bounds.1, subst (λ (g : Group). IsFree s taken' g m) (sym same.group) there)

      -- and the other way round
      free_here : (m : ℕ) → m < 1440 → t'.window.start ≤ m → m < t'.window.end → IsFree s taken' t'.group m
          → (t.window.start ≤ m + 1440) × (m + 1440 < t.window.end) × IsFree r taken t.group (m + 1440)
      free_here m soon from to free =
          let inside = sym (same.minutes m soon) ∙ has t'.window.start t'.window.end m from to in
          let late = same.later (m + 1440) inside in
          let bounds = had t.window.start t.window.end (m + 1440) inside in
          let here : values.clock ≤ m + 1440 = omega (arith, late.0, now) in
          let there : IsFree s taken' t.group m = subst (λ (g : Group). IsFree s taken' g m) same.group free in
          (bounds.0, bounds.1, free_before r s next m soon taken taken' (alike m here) t.group there)

      least_by : (o : Option ℕ) → IfSome o (λ m. m < 1440) → IsLeast s taken' t' o → IsLeast r taken t (day_later o)
      least_by None soon least = λ k from to free. let at = free_there k from to free in least at.0 at.2 at.3 at.4
      least_by (Some m) soon least =
          let here = free_here m soon least.after least.before least.free in
          record {
            after = here.0;
            before = here.1;
            free = here.2;
            least = λ k from to free.
                let at = free_there k from to free in
                let first : m ≤ at.0 = least.least at.0 at.2 at.3 at.4 in
                omega (arith, first, at.1);
          }

    ready_now : (f : Flight) (t : Target) → aim f ≡ Ready t → values.clock ≤ t.ready
    ready_now f t e =
        let is : IsAim f times values (Ready t) = subst (IsAim f times values) e (aim_means f times values) in
        at_least (t.key.tobt + stand_minutes f.ice) values.clock t.ready is.ready
      where
        at_least : (x c y : ℕ) → y ≡ max x c → c ≤ y
        at_least x c y e = grind (arith, nat_tests)

    abbrev Fits : Target → Type 0
    Fits t = IsLeast r (taken_before r fixed targets shifted t) t (shifted t)

    target_fits : (f : Flight) → Contains fs f → is_planned f.status ≡ true → stay f ≡ true → (t : Target) → aim f ≡ Ready t → same_name t.runway n ≡ true
        → (b : AimResult) → next_aim f ≡ b → FitsNext (Ready t) b → Fits t
    target_fits f i planned stays t is on (Early rule) is' fits = absurd fits
    target_fits f i planned stays t is on (Ready u) is' fits =
        let value : shifted t ≡ day_later (placing u) = shifted_at f t i is ∙ ap (λ (x : AimResult). day_later (option_and_then placing (target_in x))) is' in
        let among = there f u i planned stays is' (ap (λ (k : List ℕ). same_name k n) fits.runway ∙ on) in
        let least : IsLeast s (taken_before s next_fixed next_targets placing u) u (placing u) =
        All-contains (λ u. IsLeast s (taken_before s next_fixed next_targets placing u) u (placing u)) next_targets u plan among in
        subst (IsLeast r (taken_before r fixed targets shifted t) t) (sym value)
        (least_by t u fits (ready_now f t is) (taken_before r fixed targets shifted t) (taken_before s next_fixed next_targets placing u)
        (λ m here. taken_alike t u fits m here) (placing u) (early u among) least)

    flight_fits : (f : Flight) → Contains fs f → (b : Bool) → is_planned f.status ≡ b → (a : AimResult) → aim f ≡ a
        → IfSome (if_so b (if_on n (target_in a))) Fits
    flight_fits f i false e a is = tt
    flight_fits f i true e (Early rule) is = tt
    flight_fits f i true e (Ready t) is = by (same_name t.runway n) refl
      where
        by : (on : Bool) → same_name t.runway n ≡ on → IfSome (cond on (Some t) None) Fits
        by false on = tt
        by true on =
            let known = planned_fit f i e in
            target_fits f i e known.0 t is on (next_aim f) refl (subst (λ (a : AimResult). FitsNext a (next_aim f)) is known.1)

    -- So it is the day's plan.
    pub shifted_plan : IsPlan r fixed targets shifted
    shifted_plan =
        subst (All Fits) (sym targets-here) (All-given target_here Fits fs (λ f i. flight_fits f i (is_planned f.status) refl (aim f) refl))

    -- The day's plan has each flight a day later than the next day's plan.
    pub placed_by : (p : Placing) → IsPlan r fixed targets p → (t : Target) → Contains targets t → p t ≡ shifted t
    placed_by p is t i = plan_one r fixed targets p shifted is shifted_plan t i
