-- An update that cancels no flight leaves the cancelled ones.
use Rattle.std.proofs.Common.{◌≡◌, ℕ, Bool, true, false, ◌||◌, List, [], ◌∷◌, ◌++◌, Option, None, Some, refl, sym, ◌∙◌, ap, filter, arith}
use Rattle.std.proofs.lemmas.{Bool.false_from_ne_true, Grind.common_steps}
use Rattle.cdm_flight.proofs.{Lists.list_any-push, JournalLemmas.same_name-refl, JournalLemmas.touching-push}
use Rattle.cdm_flight.specs.Journal.{is_cancel, record_with, status_from}
use Rattle.cdm_plan.proofs.{JournalFacts.not_first, KeptLemmas.flights_same}
use Rattle.cdm_plan.proofs.ListWords.{filter_map, filter_map-filter, if_so, list_any, option_and_then, option_map, option_map_or, option_or}
use Rattle.cdm_plan.proofs.PlanWords.{AirportRows, DayRecord, Flight, Update, flight_of, if_passes, of_flight, reach_of, records_in}
use Rattle.cdm_plan.proofs.PlanWords.{refusal_of, same_reach}
use Rattle.cdm_view.specs.Standings.{cancelled, is_cancelled}
use Rattle.cdm_flight.specs.declared.reach.Reach.TheVariants as reach

abbrev is_off : Flight → Bool
is_off f = is_cancelled f.status

abbrev has_cancel : List Update → List ℕ → Bool
has_cancel a k = list_any is_cancel (of_flight k a)

-- a flight without a CNL is not cancelled
by_status : (k : List ℕ) (own : List Update) (t b x : Option ℕ) (known : Bool)
    → if_passes is_off (option_map (record_with k own) (status_from false t b x known)) ≡ None
by_status k own (Some t) b x known = refl
by_status k own None (Some b) x known = refl
by_status k own None None x true = refl
by_status k own None None x false = refl

none_cancelled : (g : AirportRows) (a : List Update) (k : List ℕ) → has_cancel a k ≡ false → if_passes is_off (flight_of g a k) ≡ None
unfolding flight_of
none_cancelled g a k none = grind (arith, common_steps, is_off, option_map, by_status)

-- an update of a cancelled flight is refused
not_ended : (g : AirportRows) (a : List Update) (u : Update) (k : List ℕ) → refusal_of g a u ≡ None → reach_of u ≡ reach.Flight k → has_cancel a k ≡ false
unfolding refusal_of flight_of
not_ended g a u k good e =
    grind (arith, common_steps, false_from_ne_true, has_cancel, not_first, option_map_or, option_or, option_map, option_and_then)

-- the cancelled flights are those that pass the test
only_off : (fs : List Flight) → filter_map cancelled (filter is_off fs) ≡ filter_map cancelled fs
only_off fs = grind (arith, common_steps, filter_map-filter, is_off, filter_map, if_so)

pub cancelled_same : (d : DayRecord) (u : Update) → refusal_of d.airport d.journal u ≡ None → is_cancel u ≡ false
    → filter_map cancelled (records_in d.airport d.journal) ≡ filter_map cancelled (records_in d.airport (d.journal ++ u ∷ []))
cancelled_same d u good stays =
    let a = d.journal in
    let after : (k : List ℕ) → reach_of u ≡ reach.Flight k → has_cancel (a ++ u ∷ []) k ≡ false = λ k e.
    let own = touching-push (reach.Flight k) a u (ap (λ what. same_reach what (reach.Flight k)) e ∙ same_name-refl k) in
    ap (list_any is_cancel) own ∙ (list_any-push is_cancel (of_flight k a) u ∙ (λ i. stays i || not_ended d.airport a u k good e i)) in
    let same = flights_same d u is_off (λ k e. none_cancelled d.airport a k (not_ended d.airport a u k good e))
    (λ k e. none_cancelled d.airport (a ++ u ∷ []) k (after k e)) in
    sym (only_off (records_in d.airport a)) ∙ (ap (filter_map cancelled) same ∙ only_off (records_in d.airport (a ++ u ∷ [])))
