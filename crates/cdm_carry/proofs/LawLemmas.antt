-- What is kept of a flight that stays.
use Rattle.std.proofs.Common.{◌≡◌, ℕ, Bool, true, false, cond, List, [], ◌∷◌, Option, None, Some, refl, sym, ap, ◌∙◌, map, subst}
use Rattle.std.proofs.lemmas.List.Folds.{fold-map}
use Rattle.std.specs.Bool.{then_some}
use Rattle.std.specs.List.{cons_option, fold}
use Rattle.std.specs.Option.{option_map, option_or}
use Rattle.cdm_flight.specs.declared.{role.Role.Role, update.Update.Update}
use Rattle.cdm_flight.specs.declared.reach.Reach.TheVariants as reach
use Rattle.cdm_flight.specs.declared.update.Update.TheVariants as update
use Rattle.cdm_flight.specs.Journal.{aobt_given, atot_given, ctot_given, group_given, ice_given, last_value, priority_given, runway_given, stand_given, tobt_given}
use Rattle.cdm_flight.specs.Reach.{reach_of, same_reach}
use Rattle.cdm_plan.proofs.JournalFacts.{flight_named}
use Rattle.cdm_carry.specs.Carry.{carried_all, goes_on, moved, stays}
use Rattle.cdm_carry.specs.Laws.{SaysTheSame, StaysTheSame, next_minute, own}

-- Updates.

-- an update is moved in time alone
pub reach_of-moved : (u : Update) → reach_of (moved u) ≡ reach_of u
reach_of-moved (update.Tobt f m) = refl
reach_of-moved (update.Ctot f c) = refl
reach_of-moved (update.Off f m) = refl
reach_of-moved (update.Air f m) = refl
reach_of-moved (update.Rate r from to cap) = refl
reach_of-moved (update.Close r from to) = refl
reach_of-moved (update.Reopen r from to) = refl
reach_of-moved (update.Clock m) = refl
reach_of-moved u = refl

-- one of a flight goes on where the flight stays
pub goes_on-flight : (a : List Update) (f : List ℕ) (u : Update) → reach_of u ≡ reach.Flight f → goes_on a u ≡ stays a f
goes_on-flight a f (update.Rate r from to cap) e = cc e
goes_on-flight a f (update.Close r from to) e = cc e
goes_on-flight a f (update.Reopen r from to) e = cc e
goes_on-flight a f (update.Clock m) e = cc e
goes_on-flight a f (update.Taxi p r m) e = cc e
goes_on-flight a f (update.Tol t) e = cc e
goes_on-flight a f (update.Flt g p) e = let same : g ≡ f = cc e in ap (stays a) same
goes_on-flight a f (update.Tobt g m) e = let same : g ≡ f = cc e in ap (stays a) same
goes_on-flight a f (update.Stand g s) e = let same : g ≡ f = cc e in ap (stays a) same
goes_on-flight a f (update.Rwy g r) e = let same : g ≡ f = cc e in ap (stays a) same
goes_on-flight a f (update.Ctot g c) e = let same : g ≡ f = cc e in ap (stays a) same
goes_on-flight a f (update.Ice g i) e = let same : g ≡ f = cc e in ap (stays a) same
goes_on-flight a f (update.Prio g p) e = let same : g ≡ f = cc e in ap (stays a) same
goes_on-flight a f (update.Group g w) e = let same : g ≡ f = cc e in ap (stays a) same
goes_on-flight a f (update.Off g m) e = let same : g ≡ f = cc e in ap (stays a) same
goes_on-flight a f (update.Air g m) e = let same : g ≡ f = cc e in ap (stays a) same
goes_on-flight a f (update.Cnl g) e = let same : g ≡ f = cc e in ap (stays a) same

-- The updates of a flight that stays are all carried, in their order.

abbrev pub is_of : List ℕ → Update → Bool
is_of f u = same_reach (reach_of u) (reach.Flight f)

one_carried : (a : List Update) (f : List ℕ) (p : Role × Update) (later : List (Role × Update)) (rest : List Update) → stays a f ≡ true → own later f ≡ map moved rest
    → (of : Bool) → is_of f p.1 ≡ of → (goes : Bool) → goes_on a p.1 ≡ goes
    → own (cons_option (option_map (λ u. (p.0, u)) (then_some goes (moved p.1))) later) f ≡ map moved (cond of (p.1 ∷ rest) rest)
one_carried a f p later rest stay is true e true g =
    ap (λ b. cond b (moved p.1 ∷ own later f) (own later f)) (ap (λ r. same_reach r (reach.Flight f)) (reach_of-moved p.1) ∙ e) ∙ ap (λ l. moved p.1 ∷ l) is
one_carried a f p later rest stay is true e false g = cc (sym g ∙ goes_on-flight a f p.1 (flight_named (reach_of p.1) f e) ∙ stay)
one_carried a f p later rest stay is false e true g =
    ap (λ b. cond b (moved p.1 ∷ own later f) (own later f)) (ap (λ r. same_reach r (reach.Flight f)) (reach_of-moved p.1) ∙ e) ∙ is
one_carried a f p later rest stay is false e false g = is

pub own_carried : (a : List Update) (records : List (Role × Update)) (f : List ℕ) → stays a f ≡ true → own (carried_all a records) f ≡ map moved (own records f)
own_carried a [] f stay = refl
own_carried a (p ∷ later) f stay =
    one_carried a f p (carried_all a later) (own later f) stay (own_carried a later f stay) (is_of f p.1) refl (goes_on a p.1) refl

-- Last values.

-- a value that an update keeps when it is moved
pub kept : {X : Type 0} (given : Update → Option X) → ((u : Update) → given (moved u) ≡ given u) → (us : List Update) → last_value given (map moved us) ≡ last_value given us
kept {X} given same us =
    fold-map (λ (before : Option X) u. option_or (given u) before) moved None us ∙ λ i. fold (λ (before : Option X) u. option_or (same u i) before) None us

-- a value that is moved with it
either_moved : {X Y : Type 0} (h : X → Y) (o p : Option X) → option_or (option_map h o) (option_map h p) ≡ option_map h (option_or o p)
either_moved h None p = refl
either_moved h (Some x) p = refl

moved_from : {X Y : Type 0} (h : X → Y) (given : Update → Option X) (start : Option X) (us : List Update)
    → fold (λ before u. option_or (option_map h (given u)) before) (option_map h start) us ≡ option_map h (fold (λ before u. option_or (given u) before) start us)
moved_from h given start [] = refl
moved_from {X} {Y} h given start (u ∷ us) =
    ap (λ (o : Option Y). fold (λ (before : Option Y) v. option_or (option_map h (given v)) before) o us) (either_moved h (given u) start)
    ∙ moved_from h given (option_or (given u) start) us

pub moved_value : {X : Type 0} (h : X → X) (given : Update → Option X) → ((u : Update) → given (moved u) ≡ option_map h (given u)) → (us : List Update)
    → last_value given (map moved us) ≡ option_map h (last_value given us)
moved_value {X} h given same us =
    fold-map (λ (before : Option X) u. option_or (given u) before) moved None us
    ∙ (λ i. fold (λ (before : Option X) u. option_or (same u i) before) None us) ∙ moved_from h given None us

-- each value by the kind of the update
of_priority : (u : Update) → priority_given (moved u) ≡ priority_given u
of_priority (update.Flt f p) = refl
of_priority (update.Prio f p) = refl
of_priority u = refl

pub of_stand : (u : Update) → stand_given (moved u) ≡ stand_given u
of_stand (update.Stand f s) = refl
of_stand u = refl

pub of_runway : (u : Update) → runway_given (moved u) ≡ runway_given u
of_runway (update.Rwy f r) = refl
of_runway u = refl

pub of_ice : (u : Update) → ice_given (moved u) ≡ ice_given u
of_ice (update.Ice f i) = refl
of_ice u = refl

of_group : (u : Update) → group_given (moved u) ≡ group_given u
of_group (update.Group f w) = refl
of_group u = refl

of_tobt : (u : Update) → tobt_given (moved u) ≡ option_map next_minute (tobt_given u)
of_tobt (update.Tobt f m) = refl
of_tobt u = refl

of_ctot : (u : Update) → ctot_given (moved u) ≡ option_map (option_map next_minute) (ctot_given u)
of_ctot (update.Ctot f c) = refl
of_ctot u = refl

pub of_aobt : (u : Update) → aobt_given (moved u) ≡ option_map next_minute (aobt_given u)
of_aobt (update.Off f m) = refl
of_aobt u = refl

pub of_atot : (u : Update) → atot_given (moved u) ≡ option_map next_minute (atot_given u)
of_atot (update.Air f m) = refl
of_atot u = refl

pub says_the_same : (us : List Update) → SaysTheSame us (map moved us)
says_the_same us = record {
  priority = kept priority_given of_priority us;
  stand = kept stand_given of_stand us;
  runway = kept runway_given of_runway us;
  ice = kept ice_given of_ice us;
  group = kept group_given of_group us;
  tobt = moved_value next_minute tobt_given of_tobt us;
  ctot = moved_value (option_map next_minute) ctot_given of_ctot us;
  aobt = moved_value next_minute aobt_given of_aobt us;
  atot = moved_value next_minute atot_given of_atot us;
}

pub stays_the_same : StaysTheSame
stays_the_same a records f stay = subst (SaysTheSame (own records f)) (sym (own_carried a records f stay)) (says_the_same (own records f))
