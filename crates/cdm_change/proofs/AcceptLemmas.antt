-- The next airport accepts each update that is carried, in its place.
use Rattle.std.proofs.Common.{◌≡◌, ℕ, ◌+◌, ◌-◌, ◌*◌, ◌/◌, ◌%◌, ◌<◌, ◌≤◌, ◌==◌, ◌++◌, Bool, true, false, not, ◌&&◌, ◌||◌, List, [], ◌∷◌, Option, None, Some, All, IsTrue, refl, sym, ap, ◌∙◌, subst, arith, filter_map, length, count_by, ltb-false, append-nil, eqb-true, eq-eqb, leb-true, leb-false, is_some}
use Rattle.std.proofs.lemmas.Grind.{common_steps}
use Rattle.std.proofs.lemmas.Bool.Decides.{nat_tests}
use Rattle.std.proofs.lemmas.List.Elements.{All-contains, filter_map-append}
use Rattle.std.proofs.Math.Nat.{add-mul-mod_self_right, zero-mod}
use Rattle.std.specs.Prelude.{is_none, nat_le, nat_lt, if◌then◌else◌}
use Rattle.std.specs.Bool.{then_some}
use Rattle.std.specs.List.{cons_option, find, list_any}
use Rattle.std.specs.Option.{option_and_then, option_map, option_map_or, option_or}
use Rattle.cdm_flight.specs.Accepted.{accepted, flight_refusal, has_runway, is_disordered, is_full, is_unknown, refusal, refusal_of, stand_with_taxi, stands_with_rows}
use Rattle.cdm_flight.specs.Authority.{may_make}
use Rattle.cdm_flight.specs.Cells.{is_cell_length}
use Rattle.cdm_flight.specs.Journal.{AirportRows, exot_of, flight_of, is_known, of_flight, runway_row, values_of}
use Rattle.cdm_flight.specs.Names.{same_name}
use Rattle.cdm_flight.specs.Reach.{flight_in, flight_of_update, reach_of, runway_of_update}
use Rattle.cdm_flight.specs.Step.{is_fresh, step_refusal}
use Rattle.cdm_flight.specs.Taxi.{is_one_stand_too_many, stands_in}
use Rattle.cdm_flight.specs.declared.airport.RunwayRow.{RunwayRow}
use Rattle.cdm_flight.specs.declared.flight.Flight.{Flight}
use Rattle.cdm_flight.specs.declared.flight.Status.{Status}
use Rattle.cdm_flight.specs.declared.flight.Status.TheVariants as status
use Rattle.cdm_flight.specs.declared.reach.Reach.{Reach}
use Rattle.cdm_flight.specs.declared.reach.Reach.TheVariants as reach
use Rattle.cdm_flight.specs.declared.role.Role.{Role}
use Rattle.cdm_flight.specs.declared.role.Role.TheVariants as role
use Rattle.cdm_flight.specs.declared.update.Update.{Update}
use Rattle.cdm_flight.specs.declared.update.Update.TheVariants as update
use Rattle.cdm_flight.specs.declared.values.DayValues.{DayValues}
use Rattle.cdm_flight.specs.declared.word.RefusalWord.{RefusalWord}
use Rattle.cdm_flight.specs.declared.word.RefusalWord.TheVariants as word
use Rattle.cdm_plan.proofs.JournalFacts.{accepted_is}
use Rattle.cdm_plan.proofs.NameLemmas.{find_some}
use Rattle.cdm_day.proofs.BatchLemmas.{good_from}
use Rattle.cdm_carry.specs.Carry.{carried, carried_all, carry, goes_on, moved, stays, taken}
use Rattle.cdm_carry.proofs.LawLemmas.{goes_on-flight, reach_of-moved}
use Rattle.cdm_carry.proofs.StayLemmas.{state_allows}
use Rattle.cdm_change.specs.AllAccepted.{AreAllAccepted}
use Rattle.cdm_change.specs.NextDay.{next_flight, next_status}
use Rattle.cdm_change.specs.Unnoticed.{IsSameAirport}
use Rattle.cdm_change.proofs.CarriedLemmas.{of_flight-carried}
use Rattle.cdm_change.proofs.DayLemmas.{ClockRises, values_of-carried}
use Rattle.cdm_change.proofs.FiledLemmas.{KeepsHours}
use Rattle.cdm_change.proofs.FlightLemmas.{exot_of-carried, flight_of-carried, fresh_moved}
use Rattle.cdm_change.proofs.JournalLemmas.{one_clock}
use Rattle.cdm_change.proofs.ListLemmas.{list_any-moved}
use Rattle.cdm_change.proofs.RulesLemmas.{day-cells}

-- What moving an update leaves.

role_moved : (r : Role) (u : Update) → may_make r (moved u) ≡ may_make r u
role_moved role.AircraftOperator (update.Tobt f t) = refl
role_moved role.AirportOperator (update.Tobt f t) = refl
role_moved role.GroundHandler (update.Tobt f t) = refl
role_moved role.NetworkManager (update.Ctot f c) = refl
role_moved role.AirTrafficControl (update.Off f m) = refl
role_moved role.AirTrafficControl (update.Air f m) = refl
role_moved role.AirTrafficControl (update.Rate r from to most) = refl
role_moved role.AirTrafficControl (update.Close r from to) = refl
role_moved role.AirTrafficControl (update.Reopen r from to) = refl
role_moved role.AirTrafficControl (update.Clock m) = refl
role_moved r u = refl

runway_moved : (u : Update) → runway_of_update (moved u) ≡ runway_of_update u
runway_moved (update.Rwy f r) = refl
runway_moved u = refl

flight_moved : (u : Update) → flight_of_update (moved u) ≡ flight_of_update u
flight_moved u = ap flight_in (reach_of-moved u)

by_reach : (what : Reach) (f : List ℕ) → flight_in what ≡ Some f → what ≡ reach.Flight f
by_reach (reach.Flight g) f e = let same : g ≡ f = cc e in ap reach.Flight same
by_reach (reach.Runway r) f e = cc e
by_reach (reach.Taxi r) f e = cc e
by_reach reach.Day f e = cc e

-- The flight's own state.

step_moved : (x : Status) (runway : Option (List ℕ)) (u : Update) (e : Option ℕ) → step_refusal x runway u e ≡ None → step_refusal (next_status x) runway (moved u) e ≡ None
step_moved status.Cancelled runway u e h = cc h
step_moved (status.Airborne aobt atot) runway u e h = cc h
step_moved (status.OffBlock aobt taxi) runway (update.Air f atot) e h = by (nat_lt atot aobt) refl h
  where
    by : (b : Bool) → nat_lt atot aobt ≡ b → (if b then Some word.Order else None) ≡ None → (if nat_lt (atot - 1440) (aobt - 1440) then Some word.Order else None) ≡ None
    by true k h = cc h
    by false k h =
        let after = ltb-false atot aobt k in
        let still : nat_lt (atot - 1440) (aobt - 1440) ≡ false = grind (arith, nat_tests) in
        ap (λ b. if b then Some word.Order else None) still
step_moved (status.OffBlock aobt taxi) runway u e h = cc h
step_moved status.Planned runway (update.Air f atot) e h = cc h
step_moved status.Planned (Some runway) (update.Off f aobt) (Some exot) h = by (nat_lt 2879 (aobt + exot)) refl h
  where
    by : (b : Bool) → nat_lt 2879 (aobt + exot) ≡ b → (if b then Some word.NotReady else None) ≡ None → (if nat_lt 2879 (aobt - 1440 + exot) then Some word.NotReady else None) ≡ None
    by true k h = cc h
    by false k h =
        let within = ltb-false 2879 (aobt + exot) k in
        let still : nat_lt 2879 (aobt - 1440 + exot) ≡ false = grind (arith, nat_tests) in
        ap (λ b. if b then Some word.NotReady else None) still
step_moved status.Planned runway (update.Off f aobt) e h = cc h
step_moved status.Planned runway u e h = refl

-- Counts.

shorter : {X : Type 0} (h : X → Option X) (xs : List X) → length (filter_map h xs) ≤ length xs
shorter h [] = omega arith
shorter {X} h (x ∷ xs) = by (h x) (shorter h xs)
  where
    by : (o : Option X) → length (filter_map h xs) ≤ length xs → length (cons_option o (filter_map h xs)) ≤ length (x ∷ xs)
    by None few = omega (arith, few)
    by (Some y) few = omega (arith, few)

counted : {X : Type 0} (p : X → Bool) (x : X) (xs : List X) → count_by p (x ∷ xs) ≡ count_by p xs + (if p x then 1 else 0)
counted p x xs = grind (arith, common_steps)

fewer : {X : Type 0} (p : X → Bool) (h : X → Option X) (f : X → X) → ((x : X) → p (f x) ≡ p x) → (t : X → Bool) → ((x : X) → h x ≡ then_some (t x) (f x)) → (xs : List X)
    → count_by p (filter_map h xs) ≤ count_by p xs
fewer p h f same t is [] = omega arith
fewer {X} p h f same t is (x ∷ xs) = subst (λ (o : Option X). count_by p (cons_option o (filter_map h xs)) ≤ count_by p (x ∷ xs)) (sym (is x)) (by (t x) (fewer p h f same t is xs))
  where
    by : (b : Bool) → count_by p (filter_map h xs) ≤ count_by p xs → count_by p (cons_option (then_some b (f x)) (filter_map h xs)) ≤ count_by p (x ∷ xs)
    by true few =
        let before = counted p x xs in
        let after = counted p (f x) (filter_map h xs) ∙ ap (λ b. count_by p (filter_map h xs) + (if b then 1 else 0)) (same x) in
        omega (arith, before, after, few)
    by false few = let before = counted p x xs in omega (arith, before, few)

below : (n m k : ℕ) → n ≤ m → nat_le k m ≡ false → nat_le k n ≡ false
below n m k few h = grind (arith, nat_tests)

either_false : (x y : Bool) → (x || y) ≡ false → (x ≡ false) × (y ≡ false)
either_false true y h = cc h
either_false false y h = (refl, h)

-- Stands with taxi times: a TAXI is carried as it is.
stand_carried : (a : List Update) (u : Update) → option_and_then stand_with_taxi (carried a u) ≡ stand_with_taxi u
stand_carried a (update.Taxi place r minutes) = refl
stand_carried a u = no_stand (goes_on a u) (moved u) refl
  where
    no_stand : (b : Bool) (v : Update) → stand_with_taxi v ≡ None → option_and_then stand_with_taxi (then_some b v) ≡ None
    no_stand true v e = e
    no_stand false v e = refl

given_alike : {X Y : Type 0} (h : X → Option X) (k : X → Option Y) → ((x : X) → option_and_then k (h x) ≡ k x) → (xs : List X) → filter_map k (filter_map h xs) ≡ filter_map k xs
given_alike h k same [] = refl
given_alike {X} {Y} h k same (x ∷ xs) = one (h x) ∙ (λ i. cons_option (same x i) (given_alike h k same xs i))
  where
    one : (o : Option X) → filter_map k (cons_option o (filter_map h xs)) ≡ cons_option (option_and_then k o) (filter_map k (filter_map h xs))
    one None = refl
    one (Some y) = refl

-- A minute off a cell's bound stays off it.
on_grid : (c x : ℕ) → IsTrue (is_cell_length c) → (x % c == 0) ≡ true → ((x - 1440) % c == 0) ≡ true
on_grid c x fits h = by (nat_le 1440 x) refl
  where
    zero_is : x % c ≡ 0
    zero_is = eqb-true (x % c) 0 h

    by : (b : Bool) → nat_le 1440 x ≡ b → ((x - 1440) % c == 0) ≡ true
    by true late =
        let at : 1440 ≤ x = leb-true 1440 x late in
        let day = day-cells c fits in
        let sum : x - 1440 + 1440 / c * c ≡ x = omega (arith, at, day) in
        let rest : (x - 1440) % c ≡ 0 = sym (add-mul-mod_self_right (x - 1440) (1440 / c) c) ∙ ap (λ n. n % c) sum ∙ zero_is in
        eq-eqb ((x - 1440) % c) 0 rest
    by false early =
        let before : x < 1440 = leb-false 1440 x early in
        let none : x - 1440 ≡ 0 = omega (arith, before) in
        eq-eqb ((x - 1440) % c) 0 (ap (λ n. n % c) none ∙ zero-mod c)

grid_by : (c from to : ℕ) → IsTrue (is_cell_length c) → (not (from % c == 0) || not (to % c == 0)) ≡ false → (not ((from - 1440) % c == 0) || not ((to - 1440) % c == 0)) ≡ false
grid_by c from to fits h =
    let both = either_false (not (from % c == 0)) (not (to % c == 0)) h in
    λ i. not (on_grid c from fits (is_true (from % c == 0) both.0) i) || not (on_grid c to fits (is_true (to % c == 0) both.1) i)
  where
    is_true : (b : Bool) → not b ≡ false → b ≡ true
    is_true true e = refl
    is_true false e = cc e

-- One update.
module _ (g h : AirportRows) (same : IsSameAirport g h) (hours : All KeepsHours g.runways) (a p : List Update) (rises : ClockRises p) where
  abbrev there : List Update
  there = filter_map (carried a) p

  known_same : (f : List ℕ) → stays a f ≡ true → is_known there f ≡ is_known p f
  known_same f stay = ap (list_any is_fresh) (of_flight-carried a f stay p) ∙ list_any-moved is_fresh moved fresh_moved (of_flight f p)

  runways_same : (r : List ℕ) → has_runway h r ≡ has_runway g r
  runways_same r = ap (λ (rows : List RunwayRow). is_some (find (λ row. same_name row.name r) rows)) same.runways

  rows_same : (r : List ℕ) → runway_row h r ≡ runway_row g r
  rows_same r = ap (λ (rows : List RunwayRow). find (λ row. same_name row.name r) rows) same.runways

  module _ (u : Update) (goes : goes_on a u ≡ true) where
    flight_stays : (f : List ℕ) → flight_of_update u ≡ Some f → stays a f ≡ true
    flight_stays f e = sym (goes_on-flight a f u (by_reach (reach_of u) f e)) ∙ goes

    known_by : (o : Option (List ℕ)) → flight_of_update u ≡ o → option_map_or (λ f. not (is_known there f)) o false ≡ option_map_or (λ f. not (is_known p f)) o false
    known_by None e = refl
    known_by (Some f) e = ap not (known_same f (flight_stays f e))

    new_by : (o : Option (List ℕ)) → flight_of_update u ≡ o → option_map_or (is_known there) o false ≡ option_map_or (is_known p) o false
    new_by None e = refl
    new_by (Some f) e = known_same f (flight_stays f e)

    runway_by : (o : Option (List ℕ)) → option_map_or (λ r. not (has_runway h r)) o false ≡ option_map_or (λ r. not (has_runway g r)) o false
    runway_by None = refl
    runway_by (Some r) = ap not (runways_same r)

    unknown_same : is_unknown h there (moved u) ≡ is_unknown g p u
    unknown_same =
        (λ i. option_map_or (λ r. not (has_runway h r)) (runway_moved u i) false
        || (not (fresh_moved u i) && option_map_or (λ f. not (is_known there f)) (flight_moved u i) false))
        ∙ (λ i. runway_by (runway_of_update u) i || (not (is_fresh u) && known_by (flight_of_update u) refl i))

    new_same : (is_fresh (moved u) && option_map_or (is_known there) (flight_of_update (moved u)) false) ≡ (is_fresh u && option_map_or (is_known p) (flight_of_update u) false)
    new_same = (λ i. fresh_moved u i && option_map_or (is_known there) (flight_moved u i) false) ∙ ap (λ b. is_fresh u && b) (new_by (flight_of_update u) refl)

    -- the flight's own state allows it
    allowed_by : (e : Option ℕ) (o : Option Flight) → option_and_then (λ r. step_refusal r.status r.runway u e) o ≡ None
        → option_and_then (λ r. step_refusal r.status r.runway (moved u) e) (option_map next_flight o) ≡ None
    allowed_by e None k = refl
    allowed_by e (Some r) k = step_moved r.status r.runway u e k

    abbrev refusal_there : List ℕ → Option RefusalWord
    refusal_there f = option_and_then (λ r. step_refusal r.status r.runway (moved u) (exot_of h there f)) (flight_of h there f)

    abbrev refusal_here : List ℕ → Option RefusalWord
    refusal_here f = option_and_then (λ r. step_refusal r.status r.runway u (exot_of g p f)) (flight_of g p f)

    state_by : (o : Option (List ℕ)) → flight_of_update u ≡ o → option_and_then refusal_here o ≡ None → option_and_then refusal_there o ≡ None
    state_by None e k = refl
    state_by (Some f) e k =
        let stay = flight_stays f e in
        (λ i. option_and_then (λ r. step_refusal r.status r.runway (moved u) (exot_of-carried g h same.taxi a f stay p i)) (flight_of-carried g h same.taxi a f stay p i))
        ∙ allowed_by (exot_of g p f) (flight_of g p f) k

    state_same : flight_refusal g p u ≡ None → flight_refusal h there (moved u) ≡ None
    state_same k = ap (option_and_then refusal_there) (flight_moved u) ∙ state_by (flight_of_update u) refl k

  -- the clock and the windows
  window_later : (from to : ℕ) → nat_lt 1440 to ≡ true → nat_le to from ≡ false → nat_le (to - 1440) (from - 1440) ≡ false
  window_later from to late h = grind (arith, nat_tests)

  row_by : (r : List ℕ) (from to : ℕ) (o : Option RunwayRow) → runway_row g r ≡ o → option_map_or (λ row. not (from % row.cell == 0) || not (to % row.cell == 0)) o false ≡ false
      → option_map_or (λ row. not ((from - 1440) % row.cell == 0) || not ((to - 1440) % row.cell == 0)) o false ≡ false
  row_by r from to None e k = refl
  row_by r from to (Some row) e k =
      let found = find_some (λ (x : RunwayRow). same_name x.name r) g.runways row e in
      grid_by row.cell from to (All-contains KeepsHours g.runways row hours found.0).cells k

  ordered_same : (u : Update) → goes_on a u ≡ true → is_disordered g p u ≡ false → is_disordered h there (moved u) ≡ false
  ordered_same (update.Clock m) goes k =
      let clock = ap (λ (v : DayValues). v.clock) (values_of-carried a p rises) in
      ap (λ (c : ℕ). nat_lt (m - 1440) c) clock ∙ not_back m (values_of p).clock k
    where
      not_back : (m c : ℕ) → nat_lt m c ≡ false → nat_lt (m - 1440) (c - 1440) ≡ false
      not_back m c k = grind (arith, nat_tests)
  ordered_same (update.Rate r from to most) goes k =
      let parts = either_false (nat_le to from) (option_map_or (λ row. not (from % row.cell == 0) || not (to % row.cell == 0)) (runway_row g r) false) k in
      let cells = ap (λ (o : Option RunwayRow). option_map_or (λ row. not ((from - 1440) % row.cell == 0) || not ((to - 1440) % row.cell == 0)) o false) (rows_same r)
      ∙ row_by r from to (runway_row g r) refl parts.1 in
      λ i. window_later from to goes parts.0 i || cells i
  ordered_same (update.Close r from to) goes k = window_later from to goes k
  ordered_same (update.Reopen r from to) goes k = window_later from to goes k
  ordered_same u goes k = refl

  -- room
  few_updates : length there ≤ length p
  few_updates = shorter (carried a) p

  few_flights : count_by is_fresh there ≤ count_by is_fresh p
  few_flights = fewer is_fresh (carried a) moved fresh_moved (goes_on a) (λ u. refl) p

  stands_same : stands_with_rows h there ≡ stands_with_rows g p
  stands_same = λ i. stands_in (same.taxi i) ++ given_alike (carried a) stand_with_taxi (stand_carried a) p i

  room_same : (u : Update) → is_full g p u ≡ false → is_full h there (moved u) ≡ false
  room_same (update.Flt f n) k =
      let parts = either_false (nat_le 20000 (length p)) (nat_le 2000 (count_by is_fresh p)) k in
      λ i. below (length there) (length p) 20000 few_updates parts.0 i || below (count_by is_fresh there) (count_by is_fresh p) 2000 few_flights parts.1 i
  room_same (update.Taxi place r minutes) k =
      let parts = either_false (nat_le 20000 (length p)) (is_one_stand_too_many (stands_with_rows g p) place) k in
      λ i. below (length there) (length p) 20000 few_updates parts.0 i || (ap (λ (ss : List (List ℕ)). is_one_stand_too_many ss place) stands_same ∙ parts.1) i
  room_same u k = below (length there) (length p) 20000 few_updates k

  -- No word refuses it.
  none_refuses : (g : AirportRows) (a : List Update) (u : Update) → is_unknown g a u ≡ false → (is_fresh u && option_map_or (is_known a) (flight_of_update u) false) ≡ false
      → flight_refusal g a u ≡ None → is_disordered g a u ≡ false → is_full g a u ≡ false → refusal_of g a u ≡ None
  unfolding refusal_of
  none_refuses g a u known new state ordered room =
      λ i. if known i then Some word.Unknown
      else if new i then Some word.Exists
      else option_or (state i) (if ordered i then Some word.Order else if room i then Some word.Full else None)

  carried_good : (u : Update) → goes_on a u ≡ true → refusal_of g p u ≡ None → refusal_of h there (moved u) ≡ None
  carried_good u goes good =
      let is = accepted_is g p u good in
      none_refuses h there (moved u) (unknown_same u goes ∙ is.known) (new_same u goes ∙ is.new) (state_same u goes (state_allows g p u good).1)
      (ordered_same u goes is.ordered) (room_same u is.room)

  role_may : (r : Role) (u : Update) → refusal g p r u ≡ None → may_make r u ≡ true
  unfolding refusal
  role_may r u good = by (may_make r u) good
    where
      by : (b : Bool) → (if b then refusal_of g p u else Some word.Authority) ≡ None → b ≡ true
      by true e = refl
      by false e = cc e

  -- The there airport accepts it from the same role.
  pub one_accepted : (r : Role) (u : Update) → goes_on a u ≡ true → refusal g p r u ≡ None → refusal h there r (moved u) ≡ None
  unfolding refusal
  one_accepted r u goes good =
      ap (λ b. if b then refusal_of h there (moved u) else Some word.Authority) (role_moved r u ∙ role_may r u good)
      ∙ carried_good u goes (good_from (record { airport = g; journal = p }) r u good)

-- All updates, one after another.
module _ (g h : AirportRows) (same : IsSameAirport g h) (hours : All KeepsHours g.runways) (a : List Update) where
  abbrev next : List Update → List Update
  next p = filter_map (carried a) p

  next_more : (p : List Update) (u : Update) (b : Bool) → goes_on a u ≡ b → next (p ++ u ∷ []) ≡ next p ++ cons_option (then_some b (moved u)) []
  next_more p u b e = filter_map-append (carried a) p (u ∷ []) ∙ ap (λ c. next p ++ cons_option (then_some c (moved u)) []) e

  abbrev after : List (Role × Update) → List (Role × Update)
  after records = carried_all a records

  -- what the next airport takes of the carried records, and what its journal is after them
  record Taken (p : List Update) (records : List (Role × Update)) : Type 0 where
    all : taken h (next p) (after (taken g p records)) ≡ after (taken g p records)
    journal : accepted h (next p) (after (taken g p records)) ≡ next (accepted g p records)

  abbrev records_one : (b : Bool) → Role × Update → List (Role × Update) → List (Role × Update)
  records_one b r rest = cons_option (option_map (λ u. (r.0, u)) (then_some b (moved r.1))) rest

  -- a record that the airport accepts
  good_taken : (p : List Update) (r : Role × Update) (rest : List (Role × Update)) (b : Bool) → goes_on a r.1 ≡ b → ClockRises p → refusal g p r.0 r.1 ≡ None
      → taken h (next (p ++ r.1 ∷ [])) rest ≡ rest → taken h (next p) (records_one b r rest) ≡ records_one b r rest
  unfolding taken
  good_taken p r rest true e rises good is =
      let allowed = one_accepted g h same hours a p rises r.0 r.1 e good in
      let more : next p ++ moved r.1 ∷ [] ≡ next (p ++ r.1 ∷ []) = sym (next_more p r.1 true e) in
      (λ i. if is_none (allowed i) then (r.0, moved r.1) ∷ taken h (if is_none (allowed i) then next p ++ moved r.1 ∷ [] else next p) rest
      else taken h (if is_none (allowed i) then next p ++ moved r.1 ∷ [] else next p) rest)
      ∙ ap (λ (l : List (Role × Update)). (r.0, moved r.1) ∷ l) (ap (λ (q : List Update). taken h q rest) more ∙ is)
  good_taken p r rest false e rises good is =
      let none : next (p ++ r.1 ∷ []) ≡ next p = next_more p r.1 false e ∙ append-nil (next p) in
      ap (λ (q : List Update). taken h q rest) (sym none) ∙ is

  good_journal : (p : List Update) (r : Role × Update) (rest : List (Role × Update)) (b : Bool) → goes_on a r.1 ≡ b → ClockRises p → refusal g p r.0 r.1 ≡ None
      → accepted h (next p) (records_one b r rest) ≡ accepted h (next (p ++ r.1 ∷ [])) rest
  unfolding accepted
  good_journal p r rest true e rises good =
      let allowed = one_accepted g h same hours a p rises r.0 r.1 e good in
      let more : next p ++ moved r.1 ∷ [] ≡ next (p ++ r.1 ∷ []) = sym (next_more p r.1 true e) in
      (λ i. accepted h (if is_none (allowed i) then next p ++ moved r.1 ∷ [] else next p) rest) ∙ ap (λ (q : List Update). accepted h q rest) more
  good_journal p r rest false e rises good =
      let none : next (p ++ r.1 ∷ []) ≡ next p = next_more p r.1 false e ∙ append-nil (next p) in
      ap (λ (q : List Update). accepted h q rest) (sym none)

  all_by : (p : List Update) (r : Role × Update) (later : List (Role × Update)) → ClockRises p → (o : Option RefusalWord) → refusal g p r.0 r.1 ≡ o
      → ((q : List Update) → ClockRises q → Taken q later) → Taken p (r ∷ later)
  unfolding taken accepted
  all_by p r later rises None e rest =
      let q = p ++ r.1 ∷ [] in
      let others = rest q (one_clock g p r.1 (good_from (record { airport = g; journal = p }) r.0 r.1 e) rises) in
      let head : taken g p (r ∷ later) ≡ r ∷ taken g q later = λ i. if is_none (e i) then r ∷ taken g (if is_none (e i) then q else p) later else taken g (if is_none (e i) then q else p) later in
      let tail : accepted g p (r ∷ later) ≡ accepted g q later = λ i. accepted g (if is_none (e i) then q else p) later in
      record {
        all = subst (λ (l : List (Role × Update)). taken h (next p) (after l) ≡ after l) (sym head)
            (good_taken p r (after (taken g q later)) (goes_on a r.1) refl rises e others.all);
        journal =
            ap (λ (l : List (Role × Update)). accepted h (next p) (after l)) head
            ∙ good_journal p r (after (taken g q later)) (goes_on a r.1) refl rises e ∙ others.journal ∙ ap next (sym tail);
      }
  all_by p r later rises (Some w) e rest =
      let others = rest p rises in
      let head : taken g p (r ∷ later) ≡ taken g p later =
      λ i. if is_none (e i) then r ∷ taken g (if is_none (e i) then p ++ r.1 ∷ [] else p) later else taken g (if is_none (e i) then p ++ r.1 ∷ [] else p) later in
      let tail : accepted g p (r ∷ later) ≡ accepted g p later = λ i. accepted g (if is_none (e i) then p ++ r.1 ∷ [] else p) later in
      record {
        all = subst (λ (l : List (Role × Update)). taken h (next p) (after l) ≡ after l) (sym head) others.all;
        journal = ap (λ (l : List (Role × Update)). accepted h (next p) (after l)) head ∙ others.journal ∙ ap next (sym tail);
      }

  none_left : (p : List Update) → Taken p []
  unfolding taken accepted
  none_left p = record { all = refl; journal = refl }

  all_taken : (records : List (Role × Update)) (p : List Update) → ClockRises p → Taken p records
  all_taken [] p rises = none_left p
  all_taken (r ∷ later) p rises = all_by p r later rises (refusal g p r.0 r.1) refl (λ q up. all_taken later q up)

-- The next airport accepts all that is carried.
pub all_accepted : (g h : AirportRows) (records : List (Role × Update)) → All KeepsHours g.runways → IsSameAirport g h → AreAllAccepted g records h
unfolding carry
all_accepted g h records hours same =
    let a = accepted g [] records in
    let all = all_taken g h same hours a records [] (λ m i. absurd (omega (arith, i.1))) in
    record { carried = all.all; journal = ap (accepted h []) all.all ∙ all.journal }
