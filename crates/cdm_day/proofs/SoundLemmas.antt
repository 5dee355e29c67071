-- A day stays sound with every update that no word refuses.
use Rattle.cdm_day.proofs.Words.{common_steps, rules, ◌≡◌, ℕ, ◌≤◌, Bool, true, false, List, [], ◌∷◌, ◌++◌, length, None, Some, refl, sym}
use Rattle.cdm_day.proofs.Words.{ap, ◌∙◌, subst, true≢false, arith, length-append, nat_le, is_some, or_parts, nat_tests, list_any}
use Rattle.cdm_day.proofs.Words.{append-nil, accepted_is, flight_named, flights_in-push, names_after}
use Rattle.cdm_day.proofs.DayWords.{Update, flight_in, reach_of, same_reach, is_fresh, AirportRows, last_value, of_flight, runway_given}
use Rattle.cdm_day.proofs.DayWords.{is_known, flight_of, runway_of, has_runway, is_unknown, is_full, refusal_of, last_value-push}
use Rattle.cdm_day.proofs.DayWords.{touching-push, untouched, DayRecord, flights_in, with_update, IsSound, Flt}
use Rattle.cdm_day.proofs.WordLemmas.{flight_of-unknown, flt-accepted, known_from, known_is, named_runway}
use Rattle.cdm_flight.specs.declared.reach.Reach.TheVariants as reach

-- what no word refuses finds room in the journal
room_left : (g : AirportRows) (a : List Update) (u : Update) → is_full g a u ≡ false → nat_le 20000 (length a) ≡ false
room_left g a u h = grind (arith, common_steps)

push_short : (a : List Update) (u : Update) → nat_le 20000 (length a) ≡ false → length (a ++ u ∷ []) ≤ 20000
push_short a u h = grind (arith, nat_tests, length-append)

module _ (d : DayRecord) (u : Update) (sound : IsSound d) (good : refusal_of d.airport d.journal u ≡ None) where
  known_update : is_unknown d.airport d.journal u ≡ false
  known_update = (accepted_is d.airport d.journal u good).known

  -- its flight is known, but for an FLT
  pub always_known : (f : List ℕ) → reach_of u ≡ reach.Flight f → is_fresh u ≡ false → is_some (flight_of d.airport d.journal f) ≡ true
  always_known f e old = sym (known_is d sound f) ∙ known_from d.airport d.journal f u e old known_update

  pub never_known : (f : List ℕ) → reach_of u ≡ reach.Flight f → is_fresh u ≡ true → flight_of d.airport d.journal f ≡ None
  never_known f e new = flight_of-unknown d sound f (rw (new, ap flight_in e) at (accepted_is d.airport d.journal u good).new)

  silent : (q : List ℕ) (b : Bool) → same_reach (reach_of u) (reach.Flight q) ≡ b → is_known (d.journal ++ u ∷ []) q ≡ false → of_flight q (d.journal ++ u ∷ []) ≡ []
  silent q false e h =
      let same = untouched (reach.Flight q) d.journal u e in
      same ∙ sound.silent q (sym (ap (list_any is_fresh) same) ∙ h)
  silent q true e h = grind (arith, common_steps, flight_named, or_parts, true≢false, known_from, known_update)

  runways : (q s : List ℕ) (b : Bool) → same_reach (reach_of u) (reach.Flight q) ≡ b → runway_of (d.journal ++ u ∷ []) q ≡ Some s → has_runway d.airport s ≡ true
  runways q s false e h = sound.runways q s (sym (ap (last_value runway_given) (untouched (reach.Flight q) d.journal u e)) ∙ h)
  runways q s true e h = search (rules, touching-push, last_value-push, named_runway, known_update)

  pub sound_after : IsSound (with_update d u)
  sound_after = record {
    airport = sound.airport;
    silent = λ q h. silent q (same_reach (reach_of u) (reach.Flight q)) refl h;
    short = push_short d.journal u (room_left d.airport d.journal u (accepted_is d.airport d.journal u good).room);
    names = names_after d.airport d.journal u good sound.names;
    few = few u good;
    runways = λ q s h. runways q s (same_reach (reach_of u) (reach.Flight q)) refl h;
  }
    where
      few : (v : Update) → refusal_of d.airport d.journal v ≡ None → length (flights_in (d.journal ++ v ∷ [])) ≤ 2000
      few (Flt f p) ok = let less = (flt-accepted d sound f p ok).1 in rw (flights_in-push d.journal (Flt f p)) (simp length-append (omega arith))
      few v ok = subst (λ (l : List (List ℕ)). length l ≤ 2000) (sym (flights_in-push d.journal v ∙ append-nil (flights_in d.journal))) sound.few
