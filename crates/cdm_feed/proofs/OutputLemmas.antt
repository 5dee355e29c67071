-- A run has one text.
use Rattle.std.{proofs.Common.{◌≡◌, ◌++◌, ◌∙◌, ℕ, List, Option, None, Some, Result, Ok, Err, sym, subst, subst₂}, specs.Option.IsSomeAnd}
use Rattle.std.specs.{Result.IsOkAnd, List.{AllZip, IsDistinct, concat}}
use Rattle.cdm_time.specs.declared.day.TimeFault.{TimeFault}
use Rattle.cdm_flight.specs.{Journal.{AirportRows, flight_of}, Names.same_name, declared.update.Update.Update, declared.word.RefusalWord.RefusalWord}
use Rattle.cdm_plan.specs.{Airport.{IsAirport, runway_names}, Day.{DayRecord, flights_in}, DayPlan.IsDayPlan}
use Rattle.cdm_plan.proofs.OnePlanLemmas.{one_day_plan}
use Rattle.cdm_scenario.specs.{inner.OneOutcome.{names_with_all, one_each}, Outcome.IsLaid, Scenarios.{ScenarioRecord, scenario_named}}
use Rattle.cdm_report.specs.{Counts.counts_of, Report.report_bytes}
use Rattle.cdm_sequence.specs.declared.plan.Plan.{Plan}
use Rattle.cdm_kinds.specs.declared.format.Format.{Format, TheVariants.{Text, Json}}
use Rattle.cdm_table.proofs.TableLemmas.{one_plans, one_table}
use Rattle.cdm_trace.{specs.Traces.{IsTrace, from_minute}, proofs.OneTrace.one}
use Rattle.cdm_shift.{specs.Answers.IsDayAnswer, specs.declared.question.DayQuestion.DayQuestion, proofs.OneAnswer.answer_one}
use Rattle.cdm_options_text.proofs.TextLemmas.{one_text}
use Rattle.cdm_carry.{specs.declared.carry_text.CarryText.CarryText, proofs.NoticedLemmas.one_carried}
use Rattle.cdm_files.{specs.FeedDay.day_in, proofs.FeedDayLemmas.{own_airport, own_journal}}
use Rattle.cdm_feed.specs.{Answers.IsAnswer, Made.{HaveOne, IsAskedOf, IsMade, IsPlanIn, IsTextOf, IsTraceSince, IsView}}
use Rattle.cdm_feed.specs.{Output.{HaveOneText, IsMadeBy, IsReport}, inner.OneAnswer.one_answer, declared.asked.DayText.DayText}
use Rattle.cdm_feed.specs.declared.{asked.DayText.TheVariants.{Table, Picture, Answer, Trace, Options}, asked.Asked.Asked, counted.Counted.Counted}
use Rattle.cdm_feed.specs.declared.runs.RunCounts.{RunCounts}
use Rattle.cdm_feed.specs.declared.asked.DayText.TheVariants as told
use Rattle.cdm_feed.specs.declared.asked.Asked.TheVariants as ask
use Rattle.cdm_feed.specs.declared.counted.Counted.TheVariants as counted

-- the day's runways have names of their own, and so have its flights
abbrev Own : DayRecord → Type 0
Own d = IsDistinct same_name (runway_names d.airport) × IsDistinct same_name (flights_in d.journal)

one-report : (d : DayRecord) (refused : List (ℕ × RefusalWord)) (questions : List ScenarioRecord) → Own d
    → (x y : List ℕ) → IsReport d refused questions x → IsReport d refused questions y → x ≡ y
one-report d refused questions own x y a b =
    let plans : b.plan ≡ a.plan = one_day_plan d b.plan a.plan own.0 own.1 b.of_day a.of_day in
    let answers : a.answers ≡ b.answers =
    one_each (IsAnswer d (counts_of a.plan)) (λ s. one_answer d (counts_of a.plan) s own.0 own.1) questions a.answers b.answers a.of_scenarios
    (subst (λ (p : Plan). AllZip (IsAnswer d (counts_of p)) questions b.answers) plans b.of_scenarios) in
    a.bytes ∙ (λ i. report_bytes d.airport.day (sym plans i) refused ++ concat (answers i)) ∙ sym b.bytes

one-plan : (format : Format) (d : DayRecord) (refused : List (ℕ × RefusalWord)) (questions : List ScenarioRecord) → Own d
    → (x y : List ℕ) → IsPlanIn format d refused questions x → IsPlanIn format d refused questions y → x ≡ y
one-plan Text d refused questions own x y a b = one-report d refused questions own x y a b
one-plan Json d refused questions own x y a b = one_plans d own.0 own.1 refused questions x y a b

-- a day has one answer
one-answer : (format : Format) (question : DayQuestion) (d : DayRecord) → IsAirport d.airport → Own d → (x y : List ℕ) (p q : Plan) → IsDayPlan d p → IsDayPlan d q
    → IsDayAnswer format question d p x → IsDayAnswer format question d q y → x ≡ y
one-answer format question d kept own x y p q of_p of_q a b =
    let plans : q ≡ p = one_day_plan d q p own.0 own.1 of_q of_p in
    answer_one format question d p x y kept own.1 of_p a (subst (λ (r : Plan). IsDayAnswer format question d r y) plans b)

-- and so has what is said to be one day, whose runways and flights have names of their own
one-view : (format : Format) (question : DayQuestion) (IsDay : Result DayRecord (ℕ × RefusalWord) → Type 0) (x y : List ℕ)
    → ((d e : DayRecord) → IsDay (Ok d) → IsDay (Ok e) → e ≡ d) → ((d : DayRecord) → IsDay (Ok d) → IsAirport d.airport × Own d)
    → IsView format question IsDay x → IsView format question IsDay y → x ≡ y
one-view format question IsDay x y alone kept a b =
    let same : b.day ≡ a.day = alone a.day b.day a.is_day b.is_day in
    let own = kept a.day a.is_day in
    one-answer format question a.day own.0 own.1 x y a.plan b.plan a.of_day (subst (λ (d : DayRecord). IsDayPlan d b.plan) same b.of_day)
    a.answer (subst (λ (d : DayRecord). IsDayAnswer format question d b.plan y) same b.answer)

module _ (d : DayRecord) (kept : IsAirport d.airport) (own : Own d) where
  one-laid : (us : List Update) (x y : DayRecord) → IsLaid d us (Ok x) → IsLaid d us (Ok y) → y ≡ x
  one-laid us x y a b = b.1 ∙ sym a.1

  own-laid : (us : List Update) (x : DayRecord) → IsLaid d us (Ok x) → IsAirport x.airport × Own x
  own-laid us x is = subst (λ (e : DayRecord). IsAirport e.airport × Own e) (sym is.1) (kept, (own.0, names_with_all d us own.1 is.0))

  one-asked : (found : Option ScenarioRecord) (x y : DayRecord) → IsSomeAnd found (λ s. IsLaid d s.updates (Ok x))
      → IsSomeAnd found (λ s. IsLaid d s.updates (Ok y)) → y ≡ x
  one-asked (Some s) x y a b = one-laid s.updates x y a b
  one-asked None x y a b = absurd a

  own-asked : (found : Option ScenarioRecord) (x : DayRecord) → IsSomeAnd found (λ s. IsLaid d s.updates (Ok x)) → IsAirport x.airport × Own x
  own-asked (Some s) x is = own-laid s.updates x is
  own-asked None x is = absurd is

  -- whatever scenario is asked about
  one-of : (format : Format) (question : DayQuestion) (scenario : Option (List ℕ)) (questions : List ScenarioRecord) (x y : List ℕ)
      → IsView format question (IsAskedOf scenario d questions) x → IsView format question (IsAskedOf scenario d questions) y → x ≡ y
  one-of format question None questions x y =
      one-view format question (IsAskedOf None d questions) x y (λ a b is so. cc) (λ a is. let same : d ≡ a = cc in subst (λ (e : DayRecord). IsAirport e.airport × Own e) same (kept, own))
  one-of format question (Some name) questions x y =
      one-view format question (IsAskedOf (Some name) d questions) x y (one-asked (scenario_named questions name)) (own-asked (scenario_named questions name))

-- and so have the records of a feed
one-from : (r : Result ℕ TimeFault) (format : Format) (flight : Option (List ℕ)) (g : AirportRows) (feed : List ℕ) → IsAirport g → (x y : List ℕ)
    → IsOkAnd r (λ from. IsTrace format flight from g feed x) → IsOkAnd r (λ from. IsTrace format flight from g feed y) → x ≡ y
one-from (Ok from) format flight g feed kept x y a b = one format flight from g feed kept x y a b
one-from (Err e) format flight g feed kept x y a b = absurd a

one-trace : (flight since : Option (List ℕ)) (format : Format) (g : AirportRows) (feed : List ℕ) → IsAirport g → (x y : List ℕ)
    → IsTraceSince flight since format g feed x → IsTraceSince flight since format g feed y → x ≡ y
one-trace flight since format g feed kept x y a b = one-from (from_minute g.day since) format flight g feed kept x y a.1 b.1

-- where an airport, a feed and scenarios have one text, three files have one
one-by : (IsText : AirportRows → List ℕ → List ScenarioRecord → List ℕ → Type 0) (airport feed scenarios : List ℕ)
    → ((g : AirportRows) (questions : List ScenarioRecord) → IsAirport g → (x y : List ℕ) → IsText g feed questions x → IsText g feed questions y → x ≡ y)
    → (x y : List ℕ) (c d : RunCounts) → IsMadeBy IsText airport feed scenarios x c → IsMadeBy IsText airport feed scenarios y d → x ≡ y
one-by IsText airport feed scenarios alone x y c d a b =
    let rows : b.rows ≡ a.rows = cc in
    let asked : b.questions ≡ a.questions = cc in
    alone a.rows a.questions (own_airport airport a.rows a.airport_file) x y a.made
    (subst₂ (λ (g : AirportRows) (q : List ScenarioRecord). IsText g feed q y) rows asked b.made)

own-day : (g : AirportRows) (feed : List ℕ) → IsAirport g → Own (day_in g feed)
own-day g feed kept = (kept.names, own_journal g feed)

pub one-output : (airport feed scenarios : List ℕ) → HaveOneText airport feed scenarios
one-output airport feed scenarios =
    one-by (IsTextOf (told.Plan Text)) airport feed scenarios (λ g questions kept. one-report (day_in g feed) _ questions (own-day g feed kept))

one-counted : (asked : DayText) (airport feed scenarios : List ℕ)
    → ((g : AirportRows) (questions : List ScenarioRecord) → IsAirport g → (x y : List ℕ) → IsTextOf asked g feed questions x → IsTextOf asked g feed questions y → x ≡ y)
    → (x y : List ℕ) (c d : Counted) → IsMade (ask.Day asked) airport feed scenarios x c → IsMade (ask.Day asked) airport feed scenarios y d → x ≡ y
one-counted asked airport feed scenarios alone x y (counted.Day c) (counted.Day d) a b = one-by (IsTextOf asked) airport feed scenarios alone x y c d a b
one-counted asked airport feed scenarios alone x y (counted.Check c) d a b = absurd a
one-counted asked airport feed scenarios alone x y (counted.Carry c) d a b = absurd a
one-counted asked airport feed scenarios alone x y (counted.Day c) (counted.Check d) a b = absurd b
one-counted asked airport feed scenarios alone x y (counted.Day c) (counted.Carry d) a b = absurd b

one-carried : (carry : CarryText) (airport feed next x y : List ℕ) (c d : Counted) → IsMade (ask.Carry carry) airport feed next x c
    → IsMade (ask.Carry carry) airport feed next y d → x ≡ y
one-carried carry airport feed next x y (counted.Carry c) (counted.Carry d) a b = one_carried carry airport feed next x y c d a b
one-carried carry airport feed next x y (counted.Day c) d a b = absurd a
one-carried carry airport feed next x y (counted.Check c) d a b = absurd a
one-carried carry airport feed next x y (counted.Carry c) (counted.Day d) a b = absurd b
one-carried carry airport feed next x y (counted.Carry c) (counted.Check d) a b = absurd b

pub one-each : (asked : Asked) (airport feed scenarios : List ℕ) → HaveOne asked airport feed scenarios
one-each (ask.Check paths format) airport feed scenarios = tt
one-each (ask.Carry carry) airport feed next = one-carried carry airport feed next
one-each (ask.Day Picture) airport feed scenarios = tt
one-each (ask.Day (told.Plan format)) airport feed scenarios =
    one-counted (told.Plan format) airport feed scenarios (λ g questions kept. one-plan format (day_in g feed) _ questions (own-day g feed kept))
one-each (ask.Day (Table table)) airport feed scenarios =
    one-counted (Table table) airport feed scenarios (λ g questions kept. one_table (day_in g feed) kept.names (own_journal g feed) table questions)
one-each (ask.Day (Answer question scenario format)) airport feed scenarios =
    one-counted (Answer question scenario format) airport feed scenarios
    (λ g questions kept. one-of (day_in g feed) kept (own-day g feed kept) format question scenario questions)
one-each (ask.Day (Trace flight since format)) airport feed scenarios =
    one-counted (Trace flight since format) airport feed scenarios (λ g questions kept. one-trace flight since format g feed kept)
one-each (ask.Day (Options name role format)) airport feed scenarios =
    one-counted (Options name role format) airport feed scenarios (λ g questions kept.
    let d : DayRecord = day_in g feed in
    let own : Own d = own-day g feed kept in
    one_text format d own.0 own.1 (flight_of d.airport d.journal name) role)
