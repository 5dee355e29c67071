-- Taxi times after one more update.
use Rattle.cdm_day.proofs.Words.{◌≡◌, ℕ, Bool, true, false, ◌&&◌, ◌||◌, List, [], ◌∷◌, ◌++◌, Option, None, Some, refl, sym, ap, ◌∙◌}
use Rattle.cdm_day.proofs.Words.{true≢false, if◌then◌else◌, option_or, cons_option, append_assoc, append-nil, get-insert_row}
use Rattle.cdm_day.proofs.DayWords.{Place, Update, reach_of, same_name, same_name-refl, same_reach, touching, touching-push, TaxiRows}
use Rattle.cdm_day.proofs.DayWords.{stand_of_place, stands_in, AirportRows, last_value, last_value-push, then_some, same_place, taxi_given}
use Rattle.cdm_day.proofs.DayWords.{taxi_of, taxi_of-untouched, stand_with_taxi, stands_with_rows, TellTaxi, is_stand_of, has_row-insert}
use Rattle.cdm_day.proofs.DayWords.{Taxi}
use Rattle.cdm_plan.proofs.ListWords.{filter_map, list_any-append, or_comm, filter_map-append}
use Rattle.std.specs.Set.{is_member}
use Rattle.std.specs.FinMap as map_of
use Rattle.cdm_flight.specs.declared.place.Place.TheVariants as place
use Rattle.cdm_flight.specs.declared.reach.Reach.TheVariants as reach

-- only a TAXI names a stand
no_stand : (u : Update) → ((r : List ℕ) → same_reach (reach_of u) (reach.Taxi r) ≡ false) → stand_with_taxi u ≡ None
no_stand (Taxi p r t) h = absurd (true≢false (sym (same_name-refl r) ∙ h r))
no_stand _ h = refl

-- an update of something else leaves them
pub taxi_after_other : (g : AirportRows) (a : List Update) (u : Update) (rows : TaxiRows) → ((r : List ℕ) → same_reach (reach_of u) (reach.Taxi r) ≡ false)
    → TellTaxi g a rows → TellTaxi g (a ++ u ∷ []) rows
taxi_after_other g a u rows other told = record {
  minutes = λ place r. told.minutes place r ∙ sym (taxi_of-untouched g a u place r (other r));
  stands = λ q. told.stands q ∙ ap (λ l. is_member same_name (stands_in g.taxi ++ l) q) (sym same);
}
  where
    same : filter_map stand_with_taxi (a ++ u ∷ []) ≡ filter_map stand_with_taxi a
    same = filter_map-append stand_with_taxi a (u ∷ [])
        ∙ (ap (λ o. filter_map stand_with_taxi a ++ cons_option o []) (no_stand u other) ∙ append-nil (filter_map stand_with_taxi a))

and_true : (b : Bool) → (b && true) ≡ b
and_true true = refl
and_true false = refl

and_false : (b : Bool) → (b && false) ≡ false
and_false true = refl
and_false false = refl

-- a TAXI sets one
pub taxi_after_taxi : (g : AirportRows) (a : List Update) (p : Place) (s : List ℕ) (t : ℕ) (rows : TaxiRows) → TellTaxi g a rows → TellTaxi g (a ++ Taxi p s t ∷ []) (map_of.insert rows (p, s) t)
taxi_after_taxi g a p s t rows told = record {
  minutes = λ place r. get-insert_row rows p s t place r ∙ minutes place r (same_name s r) refl;
  stands = λ q. has_row-insert rows p s t q ∙ (ap (λ b. is_stand_of q p || b) (told.stands q) ∙ sym (more q));
}
  where
    by : (b : Bool) (x o d : Option ℕ) → x ≡ option_or o d → (if b then Some t else x) ≡ option_or (option_or (then_some b t) o) d
    by true x o d h = refl
    by false x o d h = h

    minutes : (place : Place) (r : List ℕ) (b : Bool) → same_name s r ≡ b
        → (if same_place p place && b then Some t else map_of.get rows (place, r)) ≡ taxi_of g (a ++ Taxi p s t ∷ []) place r
    minutes place r true e =
        let own = touching (reach.Taxi r) a in
        let rest = map_of.get g.taxi (place, r) in
        let more = ap (last_value (taxi_given place)) (touching-push (reach.Taxi r) a (Taxi p s t) e) ∙ last_value-push (taxi_given place) own (Taxi p s t) in
        ap (λ b. if b then Some t else map_of.get rows (place, r)) (and_true (same_place p place))
        ∙ (by (same_place p place) (map_of.get rows (place, r)) (last_value (taxi_given place) own) rest (told.minutes place r)
        ∙ ap (λ o. option_or o rest) (sym more))
    minutes place r false e =
        ap (λ b. if b then Some t else map_of.get rows (place, r)) (and_false (same_place p place))
        ∙ (told.minutes place r ∙ sym (taxi_of-untouched g a (Taxi p s t) place r e))

    own : (q : List ℕ) (p : Place) → is_member same_name (cons_option (stand_of_place p) []) q ≡ is_stand_of q p
    own q place.Default = refl
    own q (place.Stand x) = or_comm (same_name q x) false

    more : (q : List ℕ) → is_member same_name (stands_with_rows g (a ++ Taxi p s t ∷ [])) q ≡ (is_stand_of q p || is_member same_name (stands_with_rows g a) q)
    more q = ap (λ l. is_member same_name (stands_in g.taxi ++ l) q) (filter_map-append stand_with_taxi a (Taxi p s t ∷ []))
        ∙ (ap (λ l. is_member same_name l q) (sym (append_assoc (stands_in g.taxi) (filter_map stand_with_taxi a) (cons_option (stand_of_place p) [])))
        ∙ (list_any-append (same_name q) (stands_with_rows g a) (cons_option (stand_of_place p) [])
        ∙ (ap (λ b. is_member same_name (stands_with_rows g a) q || b) (own q p) ∙ or_comm (is_member same_name (stands_with_rows g a) q) (is_stand_of q p))))
