-- What one more update changes in what a journal says.
use Rattle.std.proofs.Common.{◌≡◌, ℕ, Bool, true, false, cond, not, ◌&&◌, ◌||◌, List, [], ◌∷◌, ◌++◌, Option, None, Some, refl, sym, ap, ◌∙◌}
use Rattle.std.proofs.{Common.{arith, rules}, lemmas.Grind.common_steps, lemmas.List.append-nil, lemmas.List.Elements.filter-append}
use Rattle.std.{proofs.lemmas.List.Sums.{fold-append, take_while-cons}, specs.Prelude.{is_some, unwrap_or}, specs.Option.option_or}
use Rattle.std.specs.List.{fold, list_all, list_any, take_while}
use Rattle.std.specs.FinMap as map
use Rattle.cdm_time.specs.declared.tolerance.Tolerance.{Tolerance}
use Rattle.cdm_flight.{proofs.Lists.{list_any-push, take_while-all, take_while-append}, specs.declared.flight.Status.Status}
use Rattle.cdm_flight.specs.declared.{flight.Status.TheVariants.{Planned, OffBlock}, group.Group.TheVariants.Medium}
use Rattle.cdm_flight.specs.declared.{ice.Ice.TheVariants.NoIce, place.Place.Place, reach.Reach.Reach, update.Update.Update}
use Rattle.cdm_flight.specs.{declared.update.Update.TheVariants.{Flt, Off, Air, Cnl, Clock, Tol}, Names.same_name}
use Rattle.cdm_flight.specs.{Reach.{reach_of, same_reach, touching}, Record.fresh, declared.flight.Flight.Flight}
use Rattle.cdm_flight.specs.Step.{is_fresh, off_block_from, stepped, step_refusal}
use Rattle.cdm_flight.specs.Journal.{AirportRows, last_value, tobt_given, stand_given, runway_given, ctot_given, ice_given, group_given}
use Rattle.cdm_flight.specs.Journal.{priority_given, aobt_given, atot_given, is_cancel, taxi_given, taxi_of, of_flight, is_known, exot_now}
use Rattle.cdm_flight.specs.Journal.{status_from, status_of, record_with, exot_of, flight_of, values_of}
use Rattle.cdm_flight.specs.declared.reach.Reach.TheVariants as reach

-- Last values of a flight.

abbrev pub aobt_of : List Update → List ℕ → Option ℕ
aobt_of a f = last_value aobt_given (of_flight f a)

abbrev pub atot_of : List Update → List ℕ → Option ℕ
atot_of a f = last_value atot_given (of_flight f a)

-- there is a CNL of the flight
abbrev pub is_cancelled : List Update → List ℕ → Bool
is_cancelled a f = list_any is_cancel (of_flight f a)

-- one more update gives the value, or leaves it
pub last_value-push : {U X : Type 0} (given : U → Option X) (a : List U) (u : U) → last_value given (a ++ u ∷ []) ≡ option_or (given u) (last_value given a)
last_value-push given a u = fold-append (λ before v. option_or (given v) before) None a (u ∷ [])

-- a name is the same as itself
pub same_name-refl : (f : List ℕ) → same_name f f ≡ true
same_name-refl f = search (rules, common_steps)

-- What an update touches.

-- an update is the last of those that touch the same
pub touching-push : (what : Reach) (a : List Update) (u : Update) → same_reach (reach_of u) what ≡ true
    → touching what (a ++ u ∷ []) ≡ touching what a ++ u ∷ []
touching-push what a u h = filter-append (λ v. same_reach (reach_of v) what) a (u ∷ []) ∙ ap (λ b. touching what a ++ cond b (u ∷ []) []) h

-- and leaves what touches something else
pub untouched : (what : Reach) (a : List Update) (u : Update) → same_reach (reach_of u) what ≡ false → touching what (a ++ u ∷ []) ≡ touching what a
untouched what a u h = grind (arith, common_steps)

pub taxi_of-untouched : (g : AirportRows) (a : List Update) (u : Update) (place : Place) (r : List ℕ) → same_reach (reach_of u) (reach.Taxi r) ≡ false
    → taxi_of g (a ++ u ∷ []) place r ≡ taxi_of g a place r
taxi_of-untouched g a u place r h = ap (λ l. option_or (last_value (taxi_given place) l) (map.get g.taxi (place, r))) (untouched (reach.Taxi r) a u h)

pub values_of-untouched : (a : List Update) (u : Update) → same_reach (reach_of u) reach.Day ≡ false → values_of (a ++ u ∷ []) ≡ values_of a
unfolding values_of
values_of-untouched a u h = rw (untouched reach.Day a u h) refl

-- a CLOCK sets the clock, and a TOL the tolerance
pub values_of-clock : (a : List Update) (m : ℕ) → values_of (a ++ Clock m ∷ []) ≡ record (values_of a) { clock = m }
unfolding values_of
values_of-clock a m = grind (arith, common_steps)

pub values_of-tolerance : (a : List Update) (t : Tolerance) → values_of (a ++ Tol t ∷ []) ≡ record (values_of a) { tolerance = t }
unfolding values_of
values_of-tolerance a t = grind (arith, common_steps)

is_some-option_or : (o p : Option ℕ) → is_some (option_or o p) ≡ (is_some o || is_some p)
is_some-option_or o p = grind arith

module _ (f : List ℕ) where
  -- The journal up to the flight's OFF.

  abbrev is_off : Update → Bool
  is_off u = same_reach (reach_of u) (reach.Flight f) && is_some (aobt_given u)

  abbrev before_off : List Update → List Update
  before_off a = take_while (λ u. not (is_off u)) a

  no_off_after : (s : Option ℕ) (a : List Update) → (not (is_some s) && list_all (λ u. not (is_off u)) a)
      ≡ not (is_some (fold (λ before u. option_or (aobt_given u) before) s (of_flight f a)))
  no_off_after s [] = grind arith
  no_off_after s (v ∷ a) = grind (arith, no_off_after s a, no_off_after (option_or (aobt_given v) s) a, is_some-option_or (aobt_given v) s)

  no_off : (a : List Update) → list_all (λ u. not (is_off u)) a ≡ not (is_some (aobt_of a f))
  no_off a = no_off_after None a

  -- it stays once the flight has left
  pub before_off-left : (a : List Update) (u : Update) (m : ℕ) → aobt_of a f ≡ Some m → before_off (a ++ u ∷ []) ≡ before_off a
  before_off-left a u m h = search (rules, no_off, take_while-append)

  -- and is all of it until then
  pub before_off-all : (a : List Update) → aobt_of a f ≡ None → before_off a ≡ a
  before_off-all a h = take_while-all (λ v. not (is_off v)) a (no_off a ∙ ap (λ o. not (is_some o)) h)

  pub before_off-leaves : (a : List Update) (u : Update) → aobt_of a f ≡ None → is_off u ≡ true → before_off (a ++ u ∷ []) ≡ a
  before_off-leaves a u h e = search (rules, take_while-cons, take_while-append, no_off, append-nil)

  -- The status.

  -- it stays where CNL, AIR, OFF and FLT of the flight are as before
  status_of-same : (g : AirportRows) (a : List Update) (u : Update) → is_cancelled (a ++ u ∷ []) f ≡ is_cancelled a f → atot_of (a ++ u ∷ []) f ≡ atot_of a f
      → aobt_of (a ++ u ∷ []) f ≡ aobt_of a f → is_known (a ++ u ∷ []) f ≡ is_known a f → status_of g (a ++ u ∷ []) f ≡ status_of g a f
  unfolding exot_of
  status_of-same g a u cancelled atot aobt known = rw (cancelled, atot, aobt, known) (by (is_cancelled a f) (atot_of a f) (aobt_of a f) refl (is_known a f))
    where
      by : (c : Bool) (t b : Option ℕ) → aobt_of a f ≡ b → (k : Bool) → status_from c t b (exot_of g (a ++ u ∷ []) f) k ≡ status_from c t b (exot_of g a f) k
      by true t b e k = refl
      by false (Some t) b e k = refl
      by false None None e true = refl
      by false None None e false = refl
      by false None (Some m) e k = ap (λ l. Some (OffBlock m (unwrap_or (exot_now g l f) 0))) (before_off-left a u m e)

  -- what the journal says of a flight stays at an update of something else
  pub flight_of-untouched : (g : AirportRows) (a : List Update) (u : Update) → same_reach (reach_of u) (reach.Flight f) ≡ false
      → flight_of g (a ++ u ∷ []) f ≡ flight_of g a f
  unfolding flight_of
  flight_of-untouched g a u h = search (rules, untouched, status_of-same)

-- What a status says of the list.

pub planned_says : (c : Bool) (t b e : Option ℕ) (k : Bool) → status_from c t b e k ≡ Some Planned → (c ≡ false) × (t ≡ None) × (b ≡ None) × (k ≡ true)
planned_says true t b e k h = cc
planned_says false (Some t) b e k h = cc
planned_says false None (Some b) e k h = cc
planned_says false None None e true h = (refl, refl, refl, refl)
planned_says false None None e false h = cc

off_block_says : (c : Bool) (t b e : Option ℕ) (k : Bool) (m x : ℕ) → status_from c t b e k ≡ Some (OffBlock m x) → (c ≡ false) × (t ≡ None) × (b ≡ Some m)
off_block_says true t b e k m x h = cc
off_block_says false (Some t) b e k m x h = cc
off_block_says false None (Some b) e k m x h = (refl, refl, cc)
off_block_says false None None e true m x h = cc
off_block_says false None None e false m x h = cc

-- the record that the list says, by its status
pub status_of-record : (f : List ℕ) (g : AirportRows) (a : List Update) (r : Flight) → flight_of g a f ≡ Some r
    → (status_of g a f ≡ Some r.status) × (record_with f (of_flight f a) r.status ≡ r)
unfolding flight_of
status_of-record f g a r h = search rules

-- An update of the flight itself.

-- a planned flight leaves with a taxi-out time
ready_off : (s : Status) (runway : Option (List ℕ)) (f : List ℕ) (m : ℕ) (e : Option ℕ) → step_refusal s runway (Off f m) e ≡ None
    → (s ≡ Planned) × ((x : ℕ) × (e ≡ Some x))
ready_off s runway f m e h = search rules

-- a flight that takes off has left
left_air : (s : Status) (runway : Option (List ℕ)) (f : List ℕ) (t : ℕ) (e : Option ℕ) → step_refusal s runway (Air f t) e ≡ None
    → (m : ℕ) × (x : ℕ) × (s ≡ OffBlock m x)
left_air s runway f t e h = search rules

-- the fields take the update's value
fields : (f : List ℕ) (own : List Update) (u : Update) (s t : Status) (exot : Option ℕ) → is_fresh u ≡ false
    → record_with f (own ++ u ∷ []) t ≡ record (stepped (record_with f own s) u exot) { status = t }
fields f own (Flt g p) s t exot old = cc
fields f own u s t exot old = λ i. record {
  name = f;
  priority = unwrap_or (last_value-push priority_given own u i) 0;
  tobt = last_value-push tobt_given own u i;
  stand = last_value-push stand_given own u i;
  runway = last_value-push runway_given own u i;
  ctot = unwrap_or (last_value-push ctot_given own u i) None;
  ice = unwrap_or (last_value-push ice_given own u i) NoIce;
  group = unwrap_or (last_value-push group_given own u i) Medium;
  status = t;
}

module _ (g : AirportRows) (a : List Update) (f : List ℕ) where
  -- an update that touches the flight is the last of its own
  one_more : (u : Update) → reach_of u ≡ reach.Flight f → of_flight f (a ++ u ∷ []) ≡ of_flight f a ++ u ∷ []
  one_more u e = touching-push (reach.Flight f) a u (ap (λ what. same_reach what (reach.Flight f)) e ∙ same_name-refl f)

  cancelled : (u : Update) → reach_of u ≡ reach.Flight f → is_cancelled (a ++ u ∷ []) f ≡ (is_cancel u || is_cancelled a f)
  cancelled u e = ap (list_any is_cancel) (one_more u e) ∙ list_any-push is_cancel (of_flight f a) u

  pub is_known-push : (u : Update) → reach_of u ≡ reach.Flight f → is_known (a ++ u ∷ []) f ≡ (is_fresh u || is_known a f)
  is_known-push u e = ap (list_any is_fresh) (one_more u e) ∙ list_any-push is_fresh (of_flight f a) u

  atot : (u : Update) → reach_of u ≡ reach.Flight f → atot_of (a ++ u ∷ []) f ≡ option_or (atot_given u) (atot_of a f)
  atot u e = ap (last_value atot_given) (one_more u e) ∙ last_value-push atot_given (of_flight f a) u

  aobt : (u : Update) → reach_of u ≡ reach.Flight f → aobt_of (a ++ u ∷ []) f ≡ option_or (aobt_given u) (aobt_of a f)
  aobt u e = ap (last_value aobt_given) (one_more u e) ∙ last_value-push aobt_given (of_flight f a) u

  -- the status that an update leaves, other than FLT, which no word refuses
  status_after : (u : Update) (r : Flight) → reach_of u ≡ reach.Flight f → status_of g a f ≡ Some r.status → is_fresh u ≡ false
      → step_refusal r.status r.runway u (exot_of g a f) ≡ None → status_of g (a ++ u ∷ []) f ≡ Some (stepped r u (exot_of g a f)).status
  unfolding exot_of
  status_after (Off q m) r e told old ok =
      let u = Off q m in
      let ready = ready_off r.status r.runway q m (exot_of g a f) ok in
      let says = planned_says (is_cancelled a f) (atot_of a f) (aobt_of a f) (exot_of g a f) (is_known a f) (told ∙ ap Some ready.0) in
      let off : is_off f u ≡ true = ap (λ what. same_reach what (reach.Flight f) && true) e ∙ ap (λ b. b && true) (same_name-refl f) in
      let cut : before_off f (a ++ u ∷ []) ≡ before_off f a = before_off-leaves f a u says.2 off ∙ sym (before_off-all f a says.2) in
      let exot : exot_of g (a ++ u ∷ []) f ≡ Some ready.1.0 = ap (λ l. exot_now g l f) cut ∙ ready.1.1 in
      (λ i. status_from ((cancelled u e ∙ says.0) i) ((atot u e ∙ says.1) i) (aobt u e i) (exot i) (is_known (a ++ u ∷ []) f))
      ∙ ap (λ x. Some (off_block_from m x)) (sym ready.1.1)
  status_after (Air q t) r e told old ok = search (rules, left_air, off_block_says, cancelled, atot, aobt)
  status_after (Cnl q) r e told old ok =
      let b = a ++ Cnl q ∷ [] in
      ap (λ c. status_from c (atot_of b f) (aobt_of b f) (exot_of g b f) (is_known b f)) (cancelled (Cnl q) e)
  status_after (Flt q p) r e told old ok = cc
  status_after u r e told old ok = status_of-same f g a u (cancelled u e) (atot u e) (aobt u e) (is_known-push u e) ∙ told

  -- after an update, other than FLT, which no word refuses, the journal says the record with its value
  pub flight_of-step : (u : Update) (r : Flight) → reach_of u ≡ reach.Flight f → flight_of g a f ≡ Some r → is_fresh u ≡ false
      → step_refusal r.status r.runway u (exot_of g a f) ≡ None → flight_of g (a ++ u ∷ []) f ≡ Some (stepped r u (exot_of g a f))
  unfolding flight_of
  flight_of-step u r e there old ok = grind (arith, common_steps, status_of-record, status_after, one_more)

-- a flight that no update touched is a fresh record after its FLT
pub flight_of-fresh : (g : AirportRows) (a : List Update) (f : List ℕ) (p : ℕ) → of_flight f a ≡ [] → flight_of g (a ++ Flt f p ∷ []) f ≡ Some (fresh f p)
unfolding flight_of
flight_of-fresh g a f p none = rw (one_more g a f (Flt f p) refl, none) refl
