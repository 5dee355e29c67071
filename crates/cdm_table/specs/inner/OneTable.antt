-- A scenario has one answer in each table.
use Rattle.std.proofs.Common.{◌≡◌, ◌∙◌, ℕ, List, [], Some, Result, Ok, Err, sym, ap, subst}
use Rattle.std.specs.Prelude.{flat_map}
use Rattle.std.specs.List.{IsDistinct}
use Rattle.cdm_flight.specs.Names.{same_name}
use Rattle.cdm_flight.specs.declared.update.Update.{Update}
use Rattle.cdm_flight.specs.declared.word.RefusalWord.{RefusalWord}
use Rattle.cdm_report.specs.declared.counts.Counts.{Counts}
use Rattle.cdm_plan.specs.Airport.{runway_names}
use Rattle.cdm_sequence.specs.declared.plan.Plan.{Plan}
use Rattle.cdm_plan.specs.Day.{DayRecord, flights_in}
use Rattle.cdm_plan.specs.DayPlan.{IsDayPlan}
use Rattle.cdm_plan.proofs.OnePlanLemmas.{one_day_plan}
use Rattle.cdm_view.specs.declared.standing.Standing.{Standing}
use Rattle.cdm_view.proofs.ChangeLemmas.{Own, one_changed_to}
use Rattle.cdm_row.proofs.RowLemmas.{one_rows}
use Rattle.cdm_row.specs.Rows.{AreRows}
use Rattle.cdm_row.specs.declared.row.Row.{Row}
use Rattle.cdm_json.specs.Plans.{IsPlanLine, plan_line}
use Rattle.cdm_json.specs.declared.plan.PlanOf.{PlanOf}
use Rattle.cdm_json.specs.declared.plan.PlanOf.TheVariants as of
use Rattle.cdm_scenario.specs.Outcome.{IsOutcome}
use Rattle.cdm_scenario.specs.Overlay.{with_updates}
use Rattle.cdm_scenario.specs.Scenarios.{ScenarioRecord}
use Rattle.cdm_scenario.specs.declared.outcome.Outcome.{Outcome}
use Rattle.cdm_scenario.specs.declared.outcome.Outcome.TheVariants.{Planned, Refused}
use Rattle.cdm_scenario.specs.inner.OneOutcome.{names_with_all, one_outcome}
use Rattle.cdm_table.specs.Comparison.{AreTold, IsChanged, IsSummaryBy, IsTried, change_lines, summary_of}
use Rattle.cdm_table.specs.Moved.{TryRecord, tried_updates}
use Rattle.cdm_table.specs.ComparisonJson.{AreChangeLines, AreDayRows, change_line}
use Rattle.cdm_table.specs.Plans.{IsLineBy, IsScenarioLine}
use Rattle.cdm_table.specs.Tables.{IsLaidIf, day_by}
use Rattle.cdm_table.specs.Rows.{AreFlightRows, AreRowsBy, AreScenarioRows, flights_text}
use Rattle.cdm_table.specs.declared.line.Summary.{Summary}

-- the Rows of a day's flights
one_day_rows : (d : DayRecord) → IsDistinct same_name (runway_names d.airport) → IsDistinct same_name (flights_in d.journal) → (x y : List Row)
    → AreDayRows d x → AreDayRows d y → x ≡ y
one_day_rows d runways flights x y a b =
    let plans : a.plan ≡ b.plan = one_day_plan d a.plan b.plan runways flights a.of_day b.of_day in
    let rows : AreRows d a.plan y = subst (λ (p : Plan). AreRows d p y) (sym plans) b.are_rows in
    one_rows d a.plan runways flights a.of_day x y a.are_rows rows

-- the line of a day's plan
pub one_plan_line : (d : DayRecord) (plan : Plan) → IsDistinct same_name (runway_names d.airport) → IsDistinct same_name (flights_in d.journal)
    → IsDayPlan d plan → (of : PlanOf) (refused : List (ℕ × RefusalWord)) (x y : List ℕ) → IsPlanLine d of plan refused x
    → IsPlanLine d of plan refused y → x ≡ y
one_plan_line d plan runways flights is of refused x y a b =
    let same : a.rows ≡ b.rows = one_rows d plan runways flights is a.rows b.rows a.are_rows b.are_rows in
    a.bytes ∙ (ap (λ rows. plan_line d.airport.day of plan rows refused) same ∙ sym b.bytes)

-- the rows of a day's flights
pub one_flight_rows : (d : DayRecord) (plan : Plan) → IsDistinct same_name (runway_names d.airport) → IsDistinct same_name (flights_in d.journal)
    → IsDayPlan d plan → (scenario x y : List ℕ) → AreFlightRows d plan scenario x → AreFlightRows d plan scenario y → x ≡ y
one_flight_rows d plan runways flights is scenario x y a b =
    let same : a.0 ≡ b.0 = one_rows d plan runways flights is a.0 b.0 a.1 b.1 in
    a.2 ∙ (ap (flights_text d.airport.day scenario) same ∙ sym b.2)

module _ (d : DayRecord) (runways : IsDistinct same_name (runway_names d.airport)) (flights : IsDistinct same_name (flights_in d.journal)) where
  -- the rows of a scenario
  pub one_scenario_rows : (s : ScenarioRecord) (x y : List ℕ) → AreScenarioRows d s x → AreScenarioRows d s y → x ≡ y
  one_scenario_rows s x y a b =
      let same : a.0 ≡ b.0 = one_outcome d s.updates runways flights a.0 b.0 a.1 b.1 in
      by a.0 a.1 a.2 (subst (λ (o : Outcome). AreRowsBy d s o y) (sym same) b.2)
    where
      by : (o : Outcome) → IsOutcome d s.updates o → AreRowsBy d s o x → AreRowsBy d s o y → x ≡ y
      by (Planned plan counts) is p q =
          one_flight_rows (with_updates d s.updates) plan runways (names_with_all d s.updates flights is.0) is.1 s.name x y p q
      by (Refused number word) is p q = p ∙ sym q

  -- the line of a scenario's plan
  pub one_scenario_line : (s : ScenarioRecord) (x y : List ℕ) → IsScenarioLine d s x → IsScenarioLine d s y → x ≡ y
  one_scenario_line s x y a b =
      let same : a.0 ≡ b.0 = one_outcome d s.updates runways flights a.0 b.0 a.1 b.1 in
      by a.0 a.1 a.2 (subst (λ (o : Outcome). IsLineBy d s o y) (sym same) b.2)
    where
      by : (o : Outcome) → IsOutcome d s.updates o → IsLineBy d s o x → IsLineBy d s o y → x ≡ y
      by (Planned plan counts) is p q =
          one_plan_line (with_updates d s.updates) plan runways (names_with_all d s.updates flights is.0) is.1 (of.Scenario s.name) [] x y p q
      by (Refused number word) is p q = p ∙ sym q

  -- what changes by updates
  one_changed : (us : List Update) (x y : Result (Counts × List Standing) (ℕ × RefusalWord)) → IsChanged d us x → IsChanged d us y → x ≡ y
  one_changed us (Ok (c, xs)) (Ok (k, ys)) a b =
      let same : Planned a.0 c ≡ Planned b.0 k = one_outcome d us runways flights (Planned a.0 c) (Planned b.0 k) a.1 b.1 in
      let counts : c ≡ k = cc in
      let own : Own (with_updates d us) = (runways, names_with_all d us flights a.1.0) in
      let changed : xs ≡ ys = one_changed_to d (with_updates d us) (runways, flights) own xs ys a.2 b.2 in
      λ i. Ok (counts i, changed i)
  one_changed us (Ok (c, xs)) (Err (n, w)) a b =
      let same : Planned a.0 c ≡ Refused n w = one_outcome d us runways flights (Planned a.0 c) (Refused n w) a.1 b in
      cc
  one_changed us (Err (n, w)) (Ok (c, xs)) a b =
      let same : Planned b.0 c ≡ Refused n w = one_outcome d us runways flights (Planned b.0 c) (Refused n w) b.1 a in
      cc
  one_changed us (Err (n, w)) (Err (m, v)) a b =
      let same : Refused n w ≡ Refused m v = one_outcome d us runways flights (Refused n w) (Refused m v) a b in
      cc

  -- in numbers
  one_summary_by : (by : Result (List Update) ℕ) (x y : Summary) → IsSummaryBy d by x → IsSummaryBy d by y → x ≡ y
  one_summary_by (Ok us) x y a b = a.2 ∙ (ap summary_of (one_changed us a.0 b.0 a.1 b.1) ∙ sym b.2)
  one_summary_by (Err number) x y a b = a ∙ sym b

  -- of a try
  pub one_tried : (t : TryRecord) (x y : Summary) → IsTried d t x → IsTried d t y → x ≡ y
  one_tried t x y a b = one_summary_by (tried_updates t) x y a b

  -- the day with all updates of a scenario, none of which is refused, has flights of its own names
  pub own_next : (s : ScenarioRecord) → IsLaidIf d (Some s) → Own (day_by d s)
  own_next s laid = (runways, names_with_all d s.updates flights laid.0)

  -- as lines
  pub one_told : (before : List Standing) (next : DayRecord) → Own next → (x y : List ℕ) → AreTold d before next x → AreTold d before next y → x ≡ y
  one_told before next own x y a b =
      let changed : a.0 ≡ b.0 = one_changed_to d next (runways, flights) own a.0 b.0 a.1 b.1 in
      a.2 ∙ (ap (flat_map (change_lines d.airport.day before)) changed ∙ sym b.2)

  -- as lines of JSON
  pub one_change_lines : (next : DayRecord) → Own next → (x y : List ℕ) → AreChangeLines d next x → AreChangeLines d next y → x ≡ y
  one_change_lines next own x y a b =
      let changed : a.0 ≡ b.0 = one_changed_to d next (runways, flights) own a.0 b.0 a.1 b.1 in
      let before : a.2 ≡ b.2 = one_day_rows d runways flights a.2 b.2 a.3 b.3 in
      let after : a.4 ≡ b.4 = one_day_rows next own.0 own.1 a.4 b.4 a.5 b.5 in
      a.6 ∙ ((λ i. flat_map (change_line d.airport.day (before i) (after i)) (changed i)) ∙ sym b.6)
