-- What is laid over a day, after one more update.
use Rattle.cdm_scenario.proofs.Words.{common_steps, ◌≡◌, ℕ, zero, suc, ◌-◌, ◌<◌, ◌≤◌, Bool, true, false, List, [], ◌∷◌, ◌++◌, length}
use Rattle.cdm_scenario.proofs.Words.{Option, None, Some, refl, sym, ap, ◌∙◌, subst, arith, rules, unwrap_or, is_some, slice_get}
use Rattle.cdm_scenario.proofs.Words.{if◌then◌else◌, option_and_then, option_map, option_or, append_assoc, get, Updates, Update, same_name}
use Rattle.cdm_scenario.proofs.Words.{Flight, AirportRows, flight_of, runway_row, values_of, refusal_of, DayRecord, flights_in, rules_of}
use Rattle.cdm_scenario.proofs.Words.{IsRunwayAt, IsSince, is_touched, Runway, TaxiRow}
use Rattle.cdm_scenario.specs.inner.Changed.{Runways, TaxiOver, TellChanged}
use Rattle.std.{specs.List.Contains, specs.Cmp.Lexicographic.same_text, proofs.lemmas.Cmp.nat_list_eq_equiv}
use Rattle.std.proofs.lemmas.{List.Sorted.{Contains-permutation, IsPermutation-sym}, Map.Keys.any_passes_from_place}
use Rattle.std.proofs.lemmas.Option.{get_or_from_slice_get, slice_get-map, slice_get_within}
use Rattle.cdm_flight.specs.declared.{airport.RunwayRow.RunwayRow, place.Place.Place, values.DayValues.DayValues}
use Rattle.cdm_flight.{specs.Taxi.{TaxiRows, is_one_stand_too_many, stands_in}, proofs.JournalLemmas.same_name-refl}
use Rattle.cdm_runway.specs.Rules.{RunwayRules}
use Rattle.cdm_plan.{specs.Sound.{IsSound, TellTaxi}, specs.declared.touched.Touched.Touched, proofs.DayPlanLemmas.record_name}
use Rattle.cdm_plan.proofs.JournalFacts.{known-among}
use Rattle.cdm_plan.proofs.NameLemmas.{find_some, rows_by_name, rows_permutation, rules_by_name, rules_in, runway_is}
use Rattle.cdm_day.specs.{Changes.{ChangesRunway, IsChange, has_window, with_change}, declared.change.Change.Change}
use Rattle.cdm_day.specs.declared.change.RunwayChange.{RunwayChange}
use Rattle.cdm_day.specs.inner.{Put.{flight_with, made_known, rows_with, rules_with, values_with}, Tables.Flights}
use Rattle.cdm_day.proofs.{ChangeLemmas.{SaysWith, says_with, the_row}, WordLemmas.{known_is, taxi-fits}}

name_of_rules : (g : AirportRows) (a : List Update) (row : RunwayRow) → (rules_of g a row).name ≡ row.name
unfolding rules_of
name_of_rules g a row = refl

-- Lists.

slice_get-front : {X : Type 0} (xs ys : List X) (i : ℕ) → i < length xs → slice_get (xs ++ ys) i ≡ slice_get xs i
slice_get-front [] ys i h = absurd (omega arith)
slice_get-front (x ∷ xs) ys zero h = refl
slice_get-front (x ∷ xs) ys (suc i) h = slice_get-front xs ys i (omega arith)

slice_get-back : {X : Type 0} (xs ys : List X) (i : ℕ) → length xs ≤ i → slice_get (xs ++ ys) i ≡ slice_get ys (i - length xs)
slice_get-back {X} [] ys i h = let same : i ≡ i - length {A = X} [] = omega arith in ap (slice_get ys) same
slice_get-back (x ∷ xs) ys zero h = absurd (omega arith)
slice_get-back (x ∷ xs) ys (suc i) h = let same : i - length xs ≡ suc i - length (x ∷ xs) = omega arith in slice_get-back xs ys i (omega arith) ∙ ap (slice_get ys) same

-- The names of a day's flights are those of their records.

name_at_place : (d : DayRecord) → IsSound d → (i : ℕ) (o : Option Flight)
    → o ≡ option_and_then (flight_of d.airport d.journal) (slice_get (flights_in d.journal) i)
    → option_map (λ r. r.name) o ≡ slice_get (flights_in d.journal) i
name_at_place d sound i o at = ap (option_map (λ (r : Flight). r.name)) at ∙ by (slice_get (flights_in d.journal) i) refl
  where
    by_record : (k : List ℕ) (q : Option Flight) → flight_of d.airport d.journal k ≡ q → is_some q ≡ true → option_map (λ r. r.name) q ≡ Some k
    by_record k s e h = search (rules, record_name)

    by : (o : Option (List ℕ)) → slice_get (flights_in d.journal) i ≡ o → option_map (λ r. r.name) (option_and_then (flight_of d.airport d.journal) o) ≡ o
    by None e = refl
    by (Some k) e =
        by_record k (flight_of d.airport d.journal k) refl (sym (known_is d sound k) ∙ (known-among d.journal k ∙ any_passes_from_place (same_name k) (flights_in d.journal) i k e (same_name-refl k)))

-- With more runways noted.

pub since_noted : (first d next : DayRecord) (s t : Touched) → next ≡ d → ((r : List ℕ) → is_touched t r ≡ false → is_touched s r ≡ false)
    → IsSince first s d → IsSince first t next
since_noted first d next s t is less since = grind (arith, common_steps)

-- Nothing laid over.

pub over_nothing : (d : DayRecord) (items : List Update) (m : Flights) (new : List (List ℕ)) (own : Runways) (values : DayValues) → IsSound d
    → items ≡ [] → m.entries ≡ []
    → new ≡ [] → own.entries ≡ [] → values ≡ values_of d.journal
    → TellChanged d.airport d.journal (d.journal ++ items) m new own None values
over_nothing d items m new own values sound none no_flights no_new no_runways day = grind (arith, common_steps)

module _ {g : AirportRows} {a e : List Update} {m : Flights} {new : List (List ℕ)} {own : Runways} {rows : Option TaxiRows} {values : DayValues}
    (told : TellChanged g a e m new own rows values) where
  -- The taxi times that count.

  pub taxi_now : (base : TaxiRows) → TellTaxi g a base → TellTaxi g e (unwrap_or rows base)
  taxi_now base tell = search rules

  -- The runway at a place.

  pub over_runway : {d : DayRecord} → record { airport = g; journal = e } ≡ d → (i : ℕ) (x : RunwayRules) (o : Option RunwayRules)
      → IsRunwayAt (record { airport = g; journal = a }) i (Some x) → o ≡ get same_name own x.name → IsRunwayAt d i (Some (unwrap_or o x))
  over_runway {d} is i x o here mine =
      let rows = rows_by_name g.runways in
      let at = runway_is (record { airport = g; journal = a }) i (Some x) told.sound.airport here in
      let now = sym (slice_get-map (rules_of g e) rows i ∙ by (slice_get rows i) refl (sym (slice_get-map (rules_of g a) rows i) ∙ sym at)) in
      (rules_in d.airport d.journal, rules_by_name d, now ∙ ap (λ (d : DayRecord). slice_get (rules_in d.airport d.journal) i) is)
    where
      by : (q : Option RunwayRow) → slice_get (rows_by_name g.runways) i ≡ q → option_map (rules_of g a) q ≡ Some x
          → option_map (rules_of g e) q ≡ Some (unwrap_or o x)
      by None h k = cc
      by (Some row) h k =
          let is_x : rules_of g a row ≡ x = cc in
          let name : row.name ≡ x.name = sym (name_of_rules g a row) ∙ ap (λ (y : RunwayRules). y.name) is_x in
          let here =
          Contains-permutation (rows_by_name g.runways) g.runways row (IsPermutation-sym g.runways (rows_by_name g.runways) (rows_permutation g.runways))
          (i, slice_get_within (rows_by_name g.runways) i row h, get_or_from_slice_get (rows_by_name g.runways) i row row h) in
          ap Some (told.runways row here ∙ (λ j. unwrap_or ((ap (get same_name own) name ∙ sym mine) j) (is_x j)))

  -- where the base has none there is none
  pub over_no_runway : {d : DayRecord} → record { airport = g; journal = e } ≡ d → (i : ℕ) → IsRunwayAt (record { airport = g; journal = a }) i None → IsRunwayAt d i None
  over_no_runway {d} is i here =
      let rows = rows_by_name g.runways in
      let at = runway_is (record { airport = g; journal = a }) i None told.sound.airport here in
      let now = sym (slice_get-map (rules_of g e) rows i ∙ none (slice_get rows i) (sym (slice_get-map (rules_of g a) rows i) ∙ sym at)) in
      (rules_in d.airport d.journal, rules_by_name d, now ∙ ap (λ (d : DayRecord). slice_get (rules_in d.airport d.journal) i) is)
    where
      none : (q : Option RunwayRow) → option_map (rules_of g a) q ≡ None → option_map (rules_of g e) q ≡ None
      none o h = search rules

  -- The name of the flight at a place.

  pub old_name : {d : DayRecord} → record { airport = g; journal = e } ≡ d → IsSound (record { airport = g; journal = a }) → (i : ℕ) → i < length (flights_in a)
      → (o : Option Flight) → o ≡ option_and_then (flight_of g a) (slice_get (flights_in a) i) → option_map (λ r. r.name) o ≡ slice_get (flights_in d.journal) i
  old_name is sound i below o at =
      name_at_place (record { airport = g; journal = a }) sound i o at
      ∙ (sym (ap (λ l. slice_get l i) told.order ∙ slice_get-front (flights_in a) new i below) ∙ ap (λ (d : DayRecord). slice_get (flights_in d.journal) i) is)

  pub new_name : {d : DayRecord} → record { airport = g; journal = e } ≡ d → (i k : ℕ) → length (flights_in a) ≤ i → k ≡ i - length (flights_in a)
      → slice_get new k ≡ slice_get (flights_in d.journal) i
  new_name is i k past at = search (rules, slice_get-back)

  -- The flight at a place, which has a record of its own or the base's.

  pub old_flight : {d : DayRecord} → record { airport = g; journal = e } ≡ d → IsSound (record { airport = g; journal = a }) → (i : ℕ) → i < length (flights_in a)
      → (r : Flight) → Some r ≡ option_and_then (flight_of g a) (slice_get (flights_in a) i) → (o : Option Flight) → o ≡ get same_name m r.name
      → Some (unwrap_or o r) ≡ option_and_then (flight_of d.airport d.journal) (slice_get (flights_in d.journal) i)
  old_flight {d} is sound i below r at o mine =
      let first : Some r.name ≡ slice_get (flights_in a) i = name_at_place (record { airport = g; journal = a }) sound i (Some r) at in
      let known : flight_of g a r.name ≡ Some r = ap (option_and_then (flight_of g a)) first ∙ sym at in
      let now : flight_of g e r.name ≡ Some (unwrap_or o r) = told.flights r.name ∙ ((λ j. option_or (sym mine j) (known j)) ∙ either o) in
      sym now ∙ (ap (λ (x : DayRecord). flight_of x.airport x.journal r.name) is
      ∙ ap (option_and_then (flight_of d.airport d.journal)) (old_name is sound i below (Some r) at))
    where
      either : (o : Option Flight) → option_or o (Some r) ≡ Some (unwrap_or o r)
      either o = search rules

  pub no_old_flight : {d : DayRecord} → record { airport = g; journal = e } ≡ d → IsSound (record { airport = g; journal = a }) → (i : ℕ) → i < length (flights_in a)
      → None ≡ option_and_then (flight_of g a) (slice_get (flights_in a) i)
      → None ≡ option_and_then (flight_of d.airport d.journal) (slice_get (flights_in d.journal) i)
  no_old_flight {d} is sound i below at = ap (option_and_then (flight_of d.airport d.journal)) (old_name is sound i below None at)

  -- A flight of the base that has no record of its own is as it was.

  pub flight_left : {d : DayRecord} → record { airport = g; journal = e } ≡ d → IsSound (record { airport = g; journal = a }) → (i : ℕ) → (r : Flight)
      → Some r ≡ option_and_then (flight_of g a) (slice_get (flights_in a) i) → get same_name m r.name ≡ None
      → Some r ≡ option_and_then (flight_of d.airport d.journal) (slice_get (flights_in d.journal) i)
  flight_left is sound i r at none = old_flight is sound i (within (slice_get (flights_in a) i) refl at) r at None (sym none)
    where
      within : (o : Option (List ℕ)) → slice_get (flights_in a) i ≡ o → Some r ≡ option_and_then (flight_of g a) o → i < length (flights_in a)
      within o h k = search (rules, slice_get_within)

  -- What a change that is put in leaves.

  module _ {d : DayRecord} (is : record { airport = g; journal = e } ≡ d) (u : Update) (good : refusal_of d.airport d.journal u ≡ None) where
    fine : refusal_of g e u ≡ None
    fine = subst (λ (x : DayRecord). refusal_of x.airport x.journal u ≡ None) (sym is) good

    here : (change : Change) → IsChange d u change → IsChange (record { airport = g; journal = e }) u change
    here change what = subst (λ (x : DayRecord). IsChange x u change) (sym is) what

    says : (change : Change) → IsChange d u change → SaysWith (record { airport = g; journal = e }) u change
    says change what = says_with (record { airport = g; journal = e }) u told.sound fine change (here change what)

    -- taxi times of which none is set
    pub taxi_left : (change : Change) → IsChange d u change → ((x : TaxiRows) → rows_with change x ≡ x) → TaxiOver g a (e ++ u ∷ []) rows
    taxi_left change what same = search (rules, says)

    pub over_change : (change : Change) → IsChange d u change
        → (n : Flights) (later : List (List ℕ)) (mine : Runways) (table : Option TaxiRows) (after : DayValues)
        → ((f : List ℕ) → get same_name n f ≡ flight_with change f (get same_name m f)) → later ≡ new ++ made_known change
        → ((row : RunwayRow) → Contains g.runways row → rules_of g (e ++ u ∷ []) row ≡ unwrap_or (get same_name mine row.name) (rules_of g a row))
        → TaxiOver g a (e ++ u ∷ []) table → after ≡ values_with change values → TellChanged g a (e ++ u ∷ []) n later mine table after
    over_change change what n later mine table after flights order runways taxi day = grind (arith, common_steps, says, append_assoc)

    -- runways of which none is changed
    pub runways_left : (change : Change) → IsChange d u change → ((x : RunwayRules) → rules_with change x ≡ x)
        → (row : RunwayRow) → Contains g.runways row → rules_of g (e ++ u ∷ []) row ≡ unwrap_or (get same_name own row.name) (rules_of g a row)
    runways_left change what same row i = (says change what).runways row i ∙ (same (rules_of g e row) ∙ told.runways row i)

    -- A taxi time.

    pub row_fits : (p : Place) (s : List ℕ) (t : ℕ) → IsChange d u (TaxiRow p s t) → (base : TaxiRows) → TellTaxi g a base
        → is_one_stand_too_many (stands_in (unwrap_or rows base)) p ≡ false
    row_fits p s t what base tell = taxi-fits g e (unwrap_or rows base) (taxi_now base tell) p s t (rw what at fine)

    pub taxi_set : (p : Place) (s : List ℕ) (t : ℕ) → IsChange d u (TaxiRow p s t) → (base : TaxiRows) → TellTaxi g a base
        → TaxiOver g a (e ++ u ∷ []) (Some (rows_with (TaxiRow p s t) (unwrap_or rows base)))
    taxi_set p s t what base tell = (says (TaxiRow p s t) what).taxi (unwrap_or rows base) (taxi_now base tell)

    -- A runway, where x is the base's.

    module _ (r : List ℕ) (change : RunwayChange) (what : IsChange d u (Runway r change)) where
      changes : ChangesRunway (record { airport = g; journal = e }) u r change
      changes = here (Runway r change) what

      pub runway_there : option_map (rules_of g a) (runway_row g r) ≡ None → ⊥
      runway_there none = search rules

      module _ (x : RunwayRules) (at : option_map (rules_of g a) (runway_row g r) ≡ Some x) where
        found : Contains g.runways changes.row × (same_name changes.row.name r ≡ true)
        found = find_some (λ (row : RunwayRow). same_name row.name r) g.runways changes.row changes.known

        name : changes.row.name ≡ r
        name = same_text changes.row.name r (sym found.1)

        -- the runway as the base has it, and as it is now
        is_x : rules_of g a changes.row ≡ x
        is_x = search rules

        now : rules_of g e changes.row ≡ unwrap_or (get same_name own r) x
        now = told.runways changes.row found.0 ∙ (λ j. unwrap_or (get same_name own (name j)) (is_x j))

        pub window_over : has_window change (unwrap_or (get same_name own r) x) ≡ true
        window_over = sym (ap (has_window change) now) ∙ changes.window

        pub runway_changed : (mine : Runways) → Updates same_name own mine r (Some (with_change change (unwrap_or (get same_name own r) x)))
            → (row : RunwayRow) → Contains g.runways row → rules_of g (e ++ u ∷ []) row ≡ unwrap_or (get same_name mine row.name) (rules_of g a row)
        runway_changed mine put row i = by (same_name row.name r) refl
          where
            by : (b : Bool) → same_name row.name r ≡ b → rules_of g (e ++ u ∷ []) row ≡ unwrap_or (get same_name mine row.name) (rules_of g a row)
            by true h =
                subst (λ (y : RunwayRow). rules_of g (e ++ u ∷ []) y ≡ unwrap_or (get same_name mine y.name) (rules_of g a y))
                (sym (the_row (record { airport = g; journal = e }) told.sound.airport u r change changes row i h))
                (sym changes.allows ∙ (ap (with_change change) now ∙ ap (λ o. unwrap_or o (rules_of g a changes.row)) (sym put.1 ∙ ap (get same_name mine) (sym name))))
            by false h =
                (says (Runway r change) what).runways row i
                ∙ (ap (λ b. if b then with_change change (rules_of g e row) else rules_of g e row) (ap (λ n. same_name n r) (name_of_rules g e row) ∙ h)
                ∙ (told.runways row i ∙ ap (λ o. unwrap_or o (rules_of g a row)) (sym (put.2 row.name (nat_list_eq_equiv.symm r row.name ∙ h)))))
