-- Which flights stay, by their status.
use Rattle.std.proofs.Common.{◌≡◌, ℕ, Bool, true, false, not, ◌&&◌, ◌||◌, List, [], ◌∷◌, ◌++◌, Option, None, Some, refl, ap, ◌∙◌}
use Rattle.std.proofs.Math.Bool.{or-false}
use Rattle.std.specs.{List.list_any, Prelude.{nat_lt, if◌then◌else◌}}
use Rattle.std.specs.Option.{option_and_then, option_map, option_map_or, option_or}
use Rattle.cdm_flight.proofs.Lists.{list_any-push}
use Rattle.cdm_flight.proofs.JournalLemmas.{aobt_of, atot_of, is_cancelled, last_value-push, touching-push, untouched}
use Rattle.cdm_flight.specs.declared.{role.Role.Role, update.Update.Update, word.RefusalWord.RefusalWord}
use Rattle.cdm_flight.specs.declared.update.Update.TheVariants.{Off, Air}
use Rattle.cdm_flight.specs.declared.reach.Reach.TheVariants as reach
use Rattle.cdm_flight.specs.Accepted.{accepted, flight_refusal, is_disordered, is_full, is_unknown, refusal_of}
use Rattle.cdm_flight.specs.declared.word.RefusalWord.TheVariants.{Unknown, Exists, Order, Full}
use Rattle.cdm_flight.specs.Journal.{AirportRows, aobt_given, atot_given, exot_of, flight_of, is_known, last_value, of_flight, record_with, status_from}
use Rattle.cdm_flight.specs.{Reach.{flight_of_update, reach_of, same_reach}, Step.{is_fresh, step_refusal}}
use Rattle.cdm_plan.proofs.JournalFacts.{flight_named}
use Rattle.cdm_plan.specs.{Day.DayRecord, Sound.IsSound}
use Rattle.cdm_day.proofs.BatchLemmas.{accepted-keeps}
use Rattle.cdm_carry.specs.Carry.{left_before, stays}
use Rattle.cdm_carry.specs.{Notices.stays_by, inner.Leaving.LeaveOnce}

-- Updates that no word refuses.

third_none : (b c : Bool) (v w : RefusalWord) (o p : Option RefusalWord) → (if b then Some v else if c then Some w else option_or o p) ≡ None
    → (b ≡ false) × (o ≡ None)
third_none true c v w o p h = cc h
third_none false true v w o p h = cc h
third_none false false v w None p h = (refl, refl)
third_none false false v w (Some x) p h = cc h

-- the flight's own state refuses none of them
pub state_allows : (g : AirportRows) (a : List Update) (u : Update) → refusal_of g a u ≡ None → (is_unknown g a u ≡ false) × (flight_refusal g a u ≡ None)
unfolding refusal_of
state_allows g a u good =
    third_none (is_unknown g a u) (is_fresh u && option_map_or (is_known a) (flight_of_update u) false) Unknown Exists (flight_refusal g a u)
    (if is_disordered g a u then Some Order else if is_full g a u then Some Full else None) good

-- an update of a flight that is known
is_of_known : (g : AirportRows) (a : List Update) (f : List ℕ) (t : ℕ) → refusal_of g a (Air f t) ≡ None → is_known a f ≡ true
is_of_known g a f t good = by (is_known a f) (state_allows g a (Air f t) good).0
  where
    by : (k : Bool) → not k ≡ false → k ≡ true
    by true h = refl
    by false h = cc h

-- by what the journal says of the flight
off_by : (f : List ℕ) (m : ℕ) (own : List Update) (c : Bool) (t b e : Option ℕ) (k : Bool)
    → option_and_then (λ r. step_refusal r.status r.runway (Off f m) e) (option_map (record_with f own) (status_from c t b e k)) ≡ None → b ≡ None
off_by f m own true t b e k h = cc h
off_by f m own false (Some t) b e k h = cc h
off_by f m own false None (Some b) e k h = cc h
off_by f m own false None None e k h = refl

air_by : (f : List ℕ) (t : ℕ) (own : List Update) (c : Bool) (x b e : Option ℕ) (k : Bool) → k ≡ true
    → option_and_then (λ r. step_refusal r.status r.runway (Air f t) e) (option_map (record_with f own) (status_from c x b e k)) ≡ None → b ≡ None → ⊥
air_by f t own true x b e k known h none = cc h
air_by f t own false (Some x) b e k known h none = cc h
air_by f t own false None (Some b) e k known h none = cc none
air_by f t own false None None e true known h none = cc h
air_by f t own false None None e false known h none = cc known

-- an OFF is the first of its flight
pub off_first : (g : AirportRows) (a : List Update) (f : List ℕ) (m : ℕ) → refusal_of g a (Off f m) ≡ None → aobt_of a f ≡ None
unfolding flight_of
off_first g a f m good =
    off_by f m (of_flight f a) (is_cancelled a f) (atot_of a f) (aobt_of a f) (exot_of g a f) (is_known a f) (state_allows g a (Off f m) good).1

-- an AIR comes after one
air_after : (g : AirportRows) (a : List Update) (f : List ℕ) (t : ℕ) → refusal_of g a (Air f t) ≡ None → aobt_of a f ≡ None → ⊥
unfolding flight_of
air_after g a f t good =
    air_by f t (of_flight f a) (is_cancelled a f) (atot_of a f) (aobt_of a f) (exot_of g a f) (is_known a f) (is_of_known g a f t good) (state_allows g a (Air f t) good).1

-- Journals.

abbrev is_early : Option ℕ → Bool
is_early o = option_map_or (λ m. nat_lt m 1440) o false

-- one more update of the flight
left_by : (g : AirportRows) (a : List Update) (f : List ℕ) (u : Update) → reach_of u ≡ reach.Flight f → refusal_of g a u ≡ None
    → list_any left_before (of_flight f a) ≡ is_early (aobt_of a f)
    → (left_before u || list_any left_before (of_flight f a)) ≡ is_early (option_or (aobt_given u) (aobt_of a f))
left_by g a f (Off q m) e good before =
    let same : q ≡ f = cc e in
    let none : aobt_of a f ≡ None = rw same at (off_first g a q m good) in
    ap (λ b. nat_lt m 1440 || b) (before ∙ ap is_early none) ∙ or-false (nat_lt m 1440)
left_by g a f u e good before = before

flown_by : (g : AirportRows) (a : List Update) (f : List ℕ) (u : Update) → reach_of u ≡ reach.Flight f → refusal_of g a u ≡ None
    → (aobt_of a f ≡ None → atot_of a f ≡ None) → option_or (aobt_given u) (aobt_of a f) ≡ None → option_or (atot_given u) (atot_of a f) ≡ None
flown_by g a f (Off q m) e good before none = cc none
flown_by g a f (Air q t) e good before none = let same : q ≡ f = cc e in absurd (rw same at (air_after g a q t good) none)
flown_by g a f u e good before none = before none

pub one_more : (g : AirportRows) (a : List Update) (u : Update) → refusal_of g a u ≡ None → LeaveOnce a → LeaveOnce (a ++ u ∷ [])
one_more g a u good once = record {
  left = λ f. left f (same_reach (reach_of u) (reach.Flight f)) refl;
  flown = λ f. flown f (same_reach (reach_of u) (reach.Flight f)) refl;
}
  where
    left : (f : List ℕ) (b : Bool) → same_reach (reach_of u) (reach.Flight f) ≡ b → list_any left_before (of_flight f (a ++ u ∷ [])) ≡ is_early (aobt_of (a ++ u ∷ []) f)
    left f false e = rw (untouched (reach.Flight f) a u e) (once.left f)
    left f true e =
        rw (touching-push (reach.Flight f) a u e, list_any-push left_before (of_flight f a) u, last_value-push aobt_given (of_flight f a) u)
        (left_by g a f u (flight_named (reach_of u) f e) good (once.left f))

    flown : (f : List ℕ) (b : Bool) → same_reach (reach_of u) (reach.Flight f) ≡ b → aobt_of (a ++ u ∷ []) f ≡ None → atot_of (a ++ u ∷ []) f ≡ None
    flown f false e = rw (untouched (reach.Flight f) a u e) (once.flown f)
    flown f true e =
        rw (touching-push (reach.Flight f) a u e, last_value-push aobt_given (of_flight f a) u, last_value-push atot_given (of_flight f a) u)
        (flown_by g a f u (flight_named (reach_of u) f e) good (once.flown f))

-- in what an airport accepts each flight leaves once at most
pub leave_once : (g : AirportRows) (records : List (Role × Update)) → LeaveOnce (accepted g [] records)
leave_once g records = accepted-keeps LeaveOnce g (one_more g) [] records (record { left = λ f. refl; flown = λ f h. refl })

-- Flights.

by_status : (f : List ℕ) (own : List Update) (c : Bool) (t b e : Option ℕ) (k early : Bool) → early ≡ is_early b → (b ≡ None → t ≡ None) → (k ≡ false → b ≡ None)
    → (k && not c && not early) ≡ option_map_or (λ r. stays_by r.status) (option_map (record_with f own) (status_from c t b e k)) false
by_status f own true t b e true early is flown silent = refl
by_status f own true t b e false early is flown silent = refl
by_status f own false (Some t) None e k early is flown silent = cc (flown refl)
by_status f own false (Some t) (Some m) e true early is flown silent = ap not is
by_status f own false (Some t) (Some m) e false early is flown silent = cc (silent refl)
by_status f own false None (Some m) e true early is flown silent = ap not is
by_status f own false None (Some m) e false early is flown silent = cc (silent refl)
by_status f own false None None e true early is flown silent = ap not is
by_status f own false None None e false early is flown silent = refl

-- a flight stays by its status, where the journal knows it
pub stays_is : (d : DayRecord) (f : List ℕ) → IsSound d → LeaveOnce d.journal
    → stays d.journal f ≡ option_map_or (λ r. stays_by r.status) (flight_of d.airport d.journal f) false
unfolding flight_of
stays_is d f sound once =
    let a = d.journal in
    by_status f (of_flight f a) (is_cancelled a f) (atot_of a f) (aobt_of a f) (exot_of d.airport a f) (is_known a f) (list_any left_before (of_flight f a))
    (once.left f) (once.flown f) (λ unknown. ap (last_value aobt_given) (sound.silent f unknown))
