-- Each known flight has one Row, and the Rows are by name.
use Rattle.std.proofs.Common.{◌≡◌, ◌∙◌, ◌+◌, ◌<◌, ℕ, true, List, [], ◌∷◌, ◌++◌, Some, refl, sym, ap, subst, arith, get_or}
use Rattle.std.proofs.{Common.{length, map, take}, lemmas.{Bool.false≢true, Grind.common_steps}}
use Rattle.std.proofs.lemmas.List.{get_or-map, length-map, Elements.filter_map-append, Sorted.Contains-permutation}
use Rattle.std.proofs.lemmas.List.{Sorted.IsPermutation-sym}
use Rattle.std.specs.{List.IsDistinct, List.cons_option, List.filter_map, Ordering.is_lt}
use Rattle.std.specs.Prelude.{Contains, IsPermutation, IsSortedByKey, is_some, slice_get}
use Rattle.cdm_flight.proofs.Lists.{contains_head, contains_map, contains_tail}
use Rattle.cdm_flight.specs.{Journal.flight_of, Names.name_cmp, Names.same_name, declared.flight.Flight.Flight}
use Rattle.cdm_sequence.specs.declared.plan.Plan.{Plan}
use Rattle.cdm_plan.specs.{Airport.runway_names, Day.DayRecord, Day.flights_in, DayPlan.IsDayPlan}
use Rattle.cdm_plan.proofs.{DayPlanLemmas.record_name, NameLemmas.take-next}
use Rattle.cdm_view.specs.Standings.{AreStandings, KeepsFlights, flight_name}
use Rattle.cdm_view.specs.declared.standing.Standing.{Standing, TheVariants.Cancelled}
use Rattle.cdm_view.proofs.{KnownLemmas.each_recorded, StandingLemmas.one_standings}
use Rattle.cdm_row.specs.{Rows.AreRows, Rows.KeepsRows, Rows.row_of, Rows.standing_row, declared.row.Row.Row}

abbrev pub flights : List Row → List (List ℕ)
flights rows = map (λ row. row.flight) rows

module _ (d : DayRecord) where
  abbrev Known : Standing → Type 0
  Known s = is_some (flight_of d.airport d.journal (flight_name s)) ≡ true

  -- the Row of a known flight is its own
  named : (s : Standing) (rest : List Row) → Known s → flights (cons_option (standing_row d s) rest) ≡ flight_name s ∷ flights rest
  unfolding row_of
  named s rest known = grind (arith, common_steps, flights, false≢true, record_name)

  all_named : (standings : List Standing) → ((s : Standing) → Contains standings s → Known s) → flights (filter_map (standing_row d) standings) ≡ map flight_name standings
  all_named [] known = refl
  all_named (s ∷ later) known = grind (arith, common_steps, named, contains_head, contains_tail, all_named later (λ t i. known t (contains_tail s later t i)))

  pub rows_named : (plan : Plan) (standings : List Standing) → AreStandings d plan standings
      → flights (filter_map (standing_row d) standings) ≡ map flight_name standings
  rows_named plan standings are = all_named standings (λ s i.
      each_recorded d (flight_name s)
      (Contains-permutation (map flight_name standings) (flights_in d.journal) (flight_name s)
      (IsPermutation-sym (flights_in d.journal) (map flight_name standings) are.each) (contains_map flight_name standings s i)))

  pub one_row : (plan : Plan) (rows : List Row) → AreRows d plan rows → IsPermutation (flights_in d.journal) (flights rows)
  one_row plan rows are =
      subst (IsPermutation (flights_in d.journal)) (sym (ap flights are.told ∙ rows_named plan are.standings are.stand)) are.stand.each

  -- the Rows of one standing more
  pub rows_next : (standings : List Standing) (k : ℕ) (s : Standing) → slice_get standings k ≡ Some s
      → filter_map (standing_row d) (take (k + 1) standings) ≡ filter_map (standing_row d) (take k standings) ++ cons_option (standing_row d s) []
  rows_next standings k s at = grind (arith, common_steps, take-next, filter_map-append)

-- Rows of the flights of standings by name are by name
sorted_named : (standings : List Standing) (rows : List Row) → flights rows ≡ map flight_name standings
    → IsSortedByKey flight_name name_cmp standings → IsSortedByKey (λ row. row.flight) name_cmp rows
sorted_named standings rows same up = λ k d from within.
    let t : Standing = Cancelled d.flight in
    let long : length rows ≡ length standings = simp length-map at (ap length same) in
    let at : (j : ℕ) → j < length rows → (get_or rows j d).flight ≡ flight_name (get_or standings j t) = λ j l.
    sym (get_or-map (λ (r : Row). r.flight) rows j d [] l)
    ∙ (ap (λ ns. get_or ns j []) same ∙ get_or-map flight_name standings j t [] (omega (arith, long, l))) in
    (λ i. is_lt (name_cmp (at (k + 1) within i) (at k (omega arith) i))) ∙ up k t from (omega (arith, long, within))

pub rows_keep : (d : DayRecord) (plan : Plan) (standings : List Standing) → AreStandings d plan standings → KeepsFlights standings
    → KeepsRows (filter_map (standing_row d) standings)
rows_keep d plan standings are keeps =
    let same = rows_named d plan standings are in
    record {
      by_name = sorted_named standings (filter_map (standing_row d) standings) same keeps.by_name;
      apart = subst (IsDistinct same_name) (sym same) keeps.apart;
    }

-- a day with its plan has one list of Rows
pub one_rows : (d : DayRecord) (plan : Plan) → IsDistinct same_name (runway_names d.airport) → IsDistinct same_name (flights_in d.journal)
    → IsDayPlan d plan → (x y : List Row) → AreRows d plan x → AreRows d plan y → x ≡ y
one_rows d plan runways own is x y a b =
    a.told ∙ (ap (filter_map (standing_row d)) (one_standings d plan runways own is a.standings b.standings a.stand b.stand) ∙ sym b.told)
