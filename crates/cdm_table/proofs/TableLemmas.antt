-- A day and its scenarios have one table.
use Rattle.cdm_table.proofs.Words.{◌≡◌, ◌∙◌, ◌++◌, ◌+◌, ◌≤◌, ◌<◌, ℕ, List, [], ◌∷◌, Option, None, Some, inl, inr, sym, ap, subst, arith}
use Rattle.cdm_table.proofs.Words.{map, Contains, flat_map, IsDistinct, concat, Equal, nat_tests, nat_cmp_total, on_total, then_total}
use Rattle.cdm_table.proofs.Words.{counts_of, Counts, DayRecord, flights_in, AreStandings, RefusalWord, IsPlanLine, ScenarioRecord}
use Rattle.cdm_table.specs.Comparison.{AreRanked, IsComparison, IsComparisonCsv, IsRanking, IsToldIf, IsTried, all_lines, blocked_in}
use Rattle.cdm_table.specs.Comparison.{delay_in, heading, is_refused, line_cmp, line_columns, line_fields, line_text, lines_from}
use Rattle.cdm_table.specs.{ComparisonJson.{AreChangeLinesIf, IsComparisonJson, summary_line}, Plans.{IsPlans, IsScenarioLine}}
use Rattle.cdm_csv.specs.Rows.{csv_text}
use Rattle.cdm_table.specs.{Rows.{AreFlightRows, AreScenarioRows, IsCsv}, Tables.{IsLaidIf, IsTable, asked_day, asked_of, day_by}}
use Rattle.cdm_table.specs.{Moved.{TryRecord, as_it_is, tries_of}, Steps.steps_of}
use Rattle.cdm_table.specs.Sweep.{IsSweep, IsSweepJson, sweep_heading, sweep_json_line, sweep_line}
use Rattle.std.specs.{Prelude.⊤, Option.{IsSomeAnd, option_map}}
use Rattle.cdm_view.proofs.ChangeLemmas.{Own}
use Rattle.cdm_table.specs.inner.OneTable.{one_change_lines, one_flight_rows, one_plan_line, one_scenario_line, one_scenario_rows}
use Rattle.cdm_table.specs.{inner.OneTable.{one_told, one_tried, own_next}, declared.line.Line.Line, declared.line.Summary.Summary}
use Rattle.cdm_table.specs.declared.{line.Summary.TheVariants.Planned, table.Table.Table}
use Rattle.cdm_table.specs.declared.table.Table.TheVariants.{Csv, Comparison, ComparisonCsv, ComparisonJson, Sweep, SweepJson}
use Rattle.std.specs.{Cmp.{IsTotalOrder, bool_cmp_total}, Ordering.nat_cmp}
use Rattle.cdm_flight.{specs.Names.same_name, proofs.Lists.contains_cases}
use Rattle.cdm_sequence.{proofs.OneLemmas.one_order, proofs.OrderLemmas.last_ties, specs.declared.plan.Plan.Plan}
use Rattle.cdm_plan.{specs.Airport.runway_names, proofs.OnePlanLemmas.one_day_plan}
use Rattle.cdm_view.{specs.declared.standing.Standing.Standing, proofs.StandingLemmas.one_standings}
use Rattle.cdm_json.specs.declared.plan.PlanOf.TheVariants as of
use Rattle.cdm_scenario.specs.inner.OneOutcome.{one_each}
use Rattle.cdm_table.specs.Rows as rows

-- No two lines have one place.

later_places : (place : ℕ) (ss : List TryRecord) (xs : List Summary) (line : Line) → Contains (lines_from place ss xs) line → place ≤ line.place
unfolding lines_from
later_places place (s ∷ ss) (x ∷ xs) line i = elim (contains_cases _ (lines_from (place + 1) ss xs) line i) [
  | inl e ↦ let here : place ≡ line.place = ap (λ (l : Line). l.place) e in omega (arith, here)
  | inr j ↦ let later : place + 1 ≤ line.place = later_places (place + 1) ss xs line j in omega (arith, later)
]
later_places place _ _ line i = omega (arith, i.1)

one_in : (first : Line) (rest : List Line) → ((line : Line) → Contains rest line → first.place < line.place)
    → ((a b : Line) → Contains rest a → Contains rest b → a.place ≡ b.place → a ≡ b)
    → (a b : Line) → Contains (first ∷ rest) a → Contains (first ∷ rest) b → a.place ≡ b.place → a ≡ b
one_in first rest after one a b i j same = elim (contains_cases first rest a i) [
  | inl e ↦ elim (contains_cases first rest b j) [
    | inl f ↦ sym e ∙ f
    | inr l ↦
        let here : first.place ≡ a.place = ap (λ (x : Line). x.place) e in
        absurd (omega (arith, here, same, after b l))
  ]
  | inr k ↦ elim (contains_cases first rest b j) [
    | inl f ↦
        let here : first.place ≡ b.place = ap (λ (x : Line). x.place) f in
        absurd (omega (arith, here, same, after a k))
    | inr l ↦ one a b k l same
  ]
]

one_from : (place : ℕ) (ss : List TryRecord) (xs : List Summary) (a b : Line) → Contains (lines_from place ss xs) a → Contains (lines_from place ss xs) b
    → a.place ≡ b.place → a ≡ b
unfolding lines_from
one_from place (s ∷ ss) (x ∷ xs) a b i j same =
    one_in (record { place = place; name = Some s.scenario.name; at = s.at; summary = x }) (lines_from (place + 1) ss xs)
    (λ line k. let later : place + 1 ≤ line.place = later_places (place + 1) ss xs line k in omega (arith, later))
    (one_from (place + 1) ss xs) a b i j same
one_from place _ _ a b i j same = absurd (omega (arith, i.1))

one_line : (counts : Counts) (ss : List TryRecord) (xs : List Summary) (a b : Line) → Contains (all_lines counts ss xs) a → Contains (all_lines counts ss xs) b
    → a.place ≡ b.place → a ≡ b
one_line counts ss xs =
    one_in (record { place = 0; name = None; at = None; summary = Planned counts 0 }) (lines_from 1 ss xs)
    (λ line i. let later : 1 ≤ line.place = later_places 1 ss xs line i in omega (arith, later)) (one_from 1 ss xs)

line_total : IsTotalOrder line_cmp
line_total =
    then_total (then_total (then_total
    (on_total (λ (l : Line). is_refused l.summary) bool_cmp_total)
    (on_total (λ (l : Line). blocked_in l.summary) nat_cmp_total))
    (on_total (λ (l : Line). delay_in l.summary) nat_cmp_total))
    (on_total (λ (l : Line). l.place) nat_cmp_total)

tied_places : (a b : ℕ) → nat_cmp a b ≡ Equal → a ≡ b
tied_places a b tied = grind (arith, nat_tests)

-- lines have one order
one_ranking : (counts : Counts) (ss : List TryRecord) (summaries : List Summary) (xs ys : List Line) → IsRanking (all_lines counts ss summaries) xs
    → IsRanking (all_lines counts ss summaries) ys → xs ≡ ys
one_ranking counts ss summaries xs ys a b =
    one_order line_total (λ (l : Line). l) (all_lines counts ss summaries) xs ys
    (λ x y i j tied.
    let placed = last_ties _ (nat_cmp x.place y.place) tied in
    one_line counts ss summaries x y i j (tied_places x.place y.place placed))
    a.all b.all a.best_first b.best_first

-- Tables.

module _ (d : DayRecord) (runways : IsDistinct same_name (runway_names d.airport)) (flights : IsDistinct same_name (flights_in d.journal)) where
  one_csv : (scenarios : List ScenarioRecord) (x y : List ℕ) → IsCsv d scenarios x → IsCsv d scenarios y → x ≡ y
  one_csv scenarios x y a b =
      let plans : a.plan ≡ b.plan = one_day_plan d a.plan b.plan runways flights a.of_day b.of_day in
      let rows_too : AreFlightRows d a.plan [] b.own = subst (λ (p : Plan). AreFlightRows d p [] b.own) (sym plans) b.rows in
      let own : a.own ≡ b.own = one_flight_rows d a.plan runways flights a.of_day [] a.own b.own a.rows rows_too in
      let answers : a.answers ≡ b.answers =
      one_each (AreScenarioRows d) (one_scenario_rows d runways flights) scenarios a.answers b.answers a.of_scenarios b.of_scenarios in
      a.bytes ∙ ((λ i. csv_text (rows.column_names ∷ []) ++ own i ++ concat (answers i)) ∙ sym b.bytes)

  pub one_plans : (refused : List (ℕ × RefusalWord)) (scenarios : List ScenarioRecord) (x y : List ℕ) → IsPlans d refused scenarios x
      → IsPlans d refused scenarios y → x ≡ y
  one_plans refused scenarios x y a b =
      let plans : a.plan ≡ b.plan = one_day_plan d a.plan b.plan runways flights a.of_day b.of_day in
      let line_too : IsPlanLine d of.Day a.plan refused b.own = subst (λ (p : Plan). IsPlanLine d of.Day p refused b.own) (sym plans) b.line in
      let own : a.own ≡ b.own = one_plan_line d a.plan runways flights a.of_day of.Day refused a.own b.own a.line line_too in
      let answers : a.answers ≡ b.answers =
      one_each (IsScenarioLine d) (one_scenario_line d runways flights) scenarios a.answers b.answers a.of_scenarios b.of_scenarios in
      a.bytes ∙ ((λ i. own i ++ concat (answers i)) ∙ sym b.bytes)

  -- the day of the scenario that is asked for has flights of its own names
  abbrev OwnIf : Option DayRecord → Type 0
  OwnIf None = ⊤
  OwnIf (Some next) = Own next

  own_asked : (asked : Option ScenarioRecord) → IsLaidIf d asked → OwnIf (option_map (day_by d) asked)
  own_asked None laid = tt
  own_asked (Some s) laid = own_next d runways flights s laid

  one_told_if : (before : List Standing) (asked : Option DayRecord) → OwnIf asked → (x y : List ℕ) → IsToldIf d before asked x → IsToldIf d before asked y → x ≡ y
  one_told_if before None own x y a b = a ∙ sym b
  one_told_if before (Some next) own x y a b = one_told d runways flights before next own x y a b

  -- the day's standings and the lines
  one_ranked : (tries : List TryRecord) (before then : List Standing) (x y : List Line) → AreRanked d tries before x → AreRanked d tries then y
      → (before ≡ then) × (x ≡ y)
  one_ranked tries before then x y a b =
      let plans : a.plan ≡ b.plan = one_day_plan d a.plan b.plan runways flights a.of_day b.of_day in
      let stand : AreStandings d a.plan then = subst (λ (p : Plan). AreStandings d p then) (sym plans) b.stand in
      let same : before ≡ then = one_standings d a.plan runways flights a.of_day before then a.stand stand in
      let summaries : a.summaries ≡ b.summaries = one_each (IsTried d) (one_tried d runways flights) tries a.summaries b.summaries a.of_tries b.of_tries in
      let ranking : IsRanking (all_lines (counts_of a.plan) tries a.summaries) y =
      rw (plans, summaries) b.ranking in
      (same, one_ranking (counts_of a.plan) tries a.summaries x y a.ranking ranking)

  one_comparison : (scenarios : List ScenarioRecord) (asked : Option DayRecord) → OwnIf asked → (x y : List ℕ) → IsComparison d scenarios asked x
      → IsComparison d scenarios asked y → x ≡ y
  one_comparison scenarios asked own x y a b =
      let same = one_ranked (map as_it_is scenarios) a.before b.before a.ranked b.ranked a.lines b.lines in
      let asked_for : IsToldIf d a.before asked b.told = subst (λ (l : List Standing). IsToldIf d l asked b.told) (sym same.0) b.of_asked in
      let told : a.told ≡ b.told = one_told_if a.before asked own a.told b.told a.of_asked asked_for in
      a.bytes ∙ ((λ i. heading ++ flat_map line_text (same.1 i) ++ told i) ∙ sym b.bytes)

  one_comparison_csv : (scenarios : List ScenarioRecord) (x y : List ℕ) → IsComparisonCsv d scenarios x → IsComparisonCsv d scenarios y → x ≡ y
  one_comparison_csv scenarios x y a b =
      let same = one_ranked (map as_it_is scenarios) a.before b.before a.ranked b.ranked a.lines b.lines in
      a.bytes ∙ (ap (λ lines. csv_text (line_columns ∷ map line_fields lines)) same.1 ∙ sym b.bytes)

  one_lines_if : (asked : Option DayRecord) → OwnIf asked → (x y : List ℕ) → AreChangeLinesIf d asked x → AreChangeLinesIf d asked y → x ≡ y
  one_lines_if None own x y a b = a ∙ sym b
  one_lines_if (Some next) own x y a b = one_change_lines d runways flights next own x y a b

  one_comparison_json : (scenarios : List ScenarioRecord) (asked : Option DayRecord) → OwnIf asked → (x y : List ℕ) → IsComparisonJson d scenarios asked x
      → IsComparisonJson d scenarios asked y → x ≡ y
  one_comparison_json scenarios asked own x y a b =
      let same = one_ranked (map as_it_is scenarios) a.stood b.stood a.ranked b.ranked a.lines b.lines in
      let told : a.told ≡ b.told = one_lines_if asked own a.told b.told a.of_asked b.of_asked in
      a.bytes ∙ ((λ i. flat_map summary_line (same.1 i) ++ told i) ∙ sym b.bytes)

  one_sweep : (scenarios : List ScenarioRecord) (minutes : List ℕ) (x y : List ℕ) → IsSweep d scenarios minutes x → IsSweep d scenarios minutes y → x ≡ y
  one_sweep scenarios minutes x y a b =
      let same = one_ranked (tries_of scenarios minutes) a.before b.before a.ranked b.ranked a.lines b.lines in
      a.bytes ∙ (ap (λ lines. sweep_heading ++ flat_map (sweep_line d.airport.day) lines) same.1 ∙ sym b.bytes)

  one_sweep_json : (scenarios : List ScenarioRecord) (minutes : List ℕ) (x y : List ℕ) → IsSweepJson d scenarios minutes x → IsSweepJson d scenarios minutes y
      → x ≡ y
  one_sweep_json scenarios minutes x y a b =
      let same = one_ranked (tries_of scenarios minutes) a.before b.before a.ranked b.ranked a.lines b.lines in
      a.bytes ∙ (ap (flat_map (sweep_json_line d.airport.day)) same.1 ∙ sym b.bytes)

  -- at whatever steps
  one_at : (IsText : List ℕ → List ℕ → Type 0) → ((minutes x y : List ℕ) → IsText minutes x → IsText minutes y → x ≡ y)
      → (steps : Option (List ℕ)) (x y : List ℕ) → IsSomeAnd steps (λ minutes. IsText minutes x) → IsSomeAnd steps (λ minutes. IsText minutes y) → x ≡ y
  one_at IsText one (Some minutes) x y a b = one minutes x y a b
  one_at IsText one None x y a b = absurd a

  pub one_table : (table : Table) (scenarios : List ScenarioRecord) (x y : List ℕ) → IsTable table d scenarios x → IsTable table d scenarios y → x ≡ y
  one_table Csv scenarios x y a b = one_csv scenarios x y a b
  one_table (Comparison asked) scenarios x y a b =
      one_comparison scenarios (asked_day d scenarios asked) (own_asked (asked_of scenarios asked) a.1.1) x y a.2 b.2
  one_table ComparisonCsv scenarios x y a b = one_comparison_csv scenarios x y a.1 b.1
  one_table (ComparisonJson asked) scenarios x y a b =
      one_comparison_json scenarios (asked_day d scenarios asked) (own_asked (asked_of scenarios asked) a.1.1) x y a.2 b.2
  one_table (Sweep each) scenarios x y a b =
      one_at (IsSweep d scenarios) (one_sweep scenarios) (steps_of d.airport.day each) x y a.1 b.1
  one_table (SweepJson each) scenarios x y a b =
      one_at (IsSweepJson d scenarios) (one_sweep_json scenarios) (steps_of d.airport.day each) x y a.1 b.1
