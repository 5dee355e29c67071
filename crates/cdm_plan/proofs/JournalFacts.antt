-- The flights that a journal makes known, and what no word refuses.
use Rattle.std.proofs.Common.{rules, [], ◌≡◌, ℕ, ◌+◌, Bool, true, false, cond, ◌&&◌, ◌||◌, List, ◌∷◌, ◌++◌, length, Option, None, Some}
use Rattle.std.proofs.{Common.{refl, sym, ap, ◌∙◌, arith}, lemmas.Grind.common_steps}
use Rattle.cdm_plan.proofs.ListWords.{count_by, option_map_or, if◌then◌else◌, list_any, cons_option, IsDistinct, IsDistinct-push}
use Rattle.cdm_plan.proofs.ListWords.{append-nil, filter_map-append, nat_list_eq_equiv}
use Rattle.cdm_plan.proofs.PlanWords.{Update, flight_of_update, is_fresh, same_reach, AirportRows, is_disordered, is_full, is_known}
use Rattle.cdm_plan.proofs.PlanWords.{is_unknown, refusal_of, new_flight, flights_in, of_flight, same_is, same_name, Flt}
use Rattle.cdm_flight.specs.declared.reach.Reach.{Reach}
use Rattle.cdm_flight.specs.declared.reach.Reach.TheVariants as reach
use Rattle.cdm_flight.specs.declared.word.RefusalWord.TheVariants as word

-- what has a name is something of this name
pub some_named : (o : Option (List ℕ)) (k : List ℕ) → option_map_or (λ g. same_name g k) o false ≡ true → o ≡ Some k
some_named o k h = search (rules, same_is)

-- what is the same as a flight is that flight
pub flight_named : (what : Reach) (f : List ℕ) → same_reach what (reach.Flight f) ≡ true → what ≡ reach.Flight f
flight_named what f h = search (rules, same_is)

-- only FLT makes a flight known
pub new_flight-old : (u : Update) → is_fresh u ≡ false → new_flight u ≡ None
new_flight-old u h = search rules

pub flights_in-push : (a : List Update) (u : Update) → flights_in (a ++ u ∷ []) ≡ flights_in a ++ cons_option (new_flight u) []
flights_in-push a u = filter_map-append new_flight a (u ∷ [])

count_by-cons : (p : Update → Bool) (u : Update) (a : List Update) → count_by p (u ∷ a) ≡ count_by p a + (if p u then 1 else 0)
count_by-cons p u a = grind (arith, common_steps)

one_more : (u : Update) (xs : List (List ℕ)) → length (cons_option (new_flight u) xs) ≡ length xs + (if is_fresh u then 1 else 0)
one_more u xs = search rules

-- as many as there are FLT
pub length-flights_in : (a : List Update) → length (flights_in a) ≡ count_by is_fresh a
length-flights_in [] = refl
length-flights_in (u ∷ a) = one_more u (flights_in a) ∙ (ap (λ n. n + (if is_fresh u then 1 else 0)) (length-flights_in a) ∙ sym (count_by-cons is_fresh u a))

-- a flight is known where it is among those that were made known
pub known-among : (a : List Update) (f : List ℕ) → is_known a f ≡ list_any (same_name f) (flights_in a)
known-among [] f = refl
known-among (Flt g p ∷ a) f = by (same_name g f) ∙ λ i. nat_list_eq_equiv.symm g f i || known-among a f i
  where
    by : (b : Bool) → list_any is_fresh (cond b (Flt g p ∷ of_flight f a) (of_flight f a)) ≡ (b || is_known a f)
    by true = refl
    by false = refl
known-among (u ∷ a) f = grind (arith, common_steps, known-among a f)

-- What no word refuses.

pub record IsAccepted (g : AirportRows) (a : List Update) (u : Update) : Type 0 where
  pub known : is_unknown g a u ≡ false
  pub new : (is_fresh u && option_map_or (is_known a) (flight_of_update u) false) ≡ false
  pub ordered : is_disordered g a u ≡ false
  pub room : is_full g a u ≡ false

pub not_first : {X : Type 0} (b : Bool) (w : X) (rest : Option X) → (if b then Some w else rest) ≡ None → (b ≡ false) × (rest ≡ None)
not_first true w rest h = cc
not_first false w rest h = (refl, h)

pub accepted_is : (g : AirportRows) (a : List Update) (u : Update) → refusal_of g a u ≡ None → IsAccepted g a u
unfolding refusal_of
accepted_is g a u good = grind (arith, common_steps)

-- each flight becomes known once
pub names_after : (g : AirportRows) (a : List Update) (u : Update) → refusal_of g a u ≡ None → IsDistinct same_name (flights_in a)
    → IsDistinct same_name (flights_in (a ++ u ∷ []))
names_after g a (Flt f p) good own =
    rw (flights_in-push a (Flt f p)) (IsDistinct-push nat_list_eq_equiv (flights_in a) f own (sym (known-among a f) ∙ (accepted_is g a (Flt f p) good).new))
names_after g a u good own = rw (flights_in-push a u, append-nil (flights_in a)) own
