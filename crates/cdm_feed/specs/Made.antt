-- What runs make of an airport file, a feed and a third file, which has scenarios or is the next airport file, and why they make nothing.
use Rattle.std.specs.Prelude.{◌≡◌, ⊤, ℕ, List, Option, None, Some, IsSome, IsErr, IsOk, Result, Ok, Err}
use Rattle.std.specs.Option.{IsSomeAnd}
use Rattle.std.specs.Result.{IsOkAnd}
use Rattle.cdm_flight.specs.Journal.{AirportRows, flight_of}
use Rattle.cdm_flight.specs.declared.word.RefusalWord.{RefusalWord}
use Rattle.cdm_flight.specs.declared.word.RefusalWord.TheVariants.{Exists}
use Rattle.cdm_options_text.specs.Texts.{IsOptionsText}
use Rattle.cdm_options.specs.Options.{IsOptionsFault}
use Rattle.cdm_options.specs.declared.options.OptionsFault.{OptionsFault}
use Rattle.cdm_options.specs.declared.options.OptionsFault.TheVariants as options
use Rattle.cdm_sequence.specs.declared.plan.Plan.{Plan}
use Rattle.cdm_plan.specs.Day.{DayRecord}
use Rattle.cdm_plan.specs.DayPlan.{IsDayPlan}
use Rattle.cdm_view.specs.declared.fault.ViewFault.{ViewFault}
use Rattle.cdm_view.specs.declared.fault.ViewFault.TheVariants as view
use Rattle.cdm_shift.specs.Answers.{IsDayAnswer, IsNotAnswered}
use Rattle.cdm_shift.specs.declared.question.DayQuestion.{DayQuestion}
use Rattle.cdm_scenario.specs.Outcome.{IsLaid}
use Rattle.cdm_scenario.specs.Scenarios.{ScenarioRecord, scenario_named}
use Rattle.cdm_kinds.specs.declared.format.Format.{Format}
use Rattle.cdm_kinds.specs.declared.format.Format.TheVariants.{Text, Json}
use Rattle.cdm_table.specs.Plans.{IsPlans}
use Rattle.cdm_table.specs.Tables.{IsTable, IsTableFault}
use Rattle.cdm_table.specs.declared.table.TableFault.{TableFault}
use Rattle.cdm_table.specs.declared.table.TableFault.TheVariants as untabled
use Rattle.cdm_picture.specs.Pictures.{IsPicture}
use Rattle.cdm_trace.specs.Traces.{IsTrace, from_minute}
use Rattle.cdm_check.specs.Paths.{IsCheckAt, counts_at}
use Rattle.cdm_carry.specs.Noticed.{IsCarryText}
use Rattle.cdm_carry.specs.Uncarried.{IsUncarried}
use Rattle.cdm_files.specs.AirportFile.{airport_in}
use Rattle.cdm_files.specs.CommonFaults.{IsAirportFault}
use Rattle.cdm_files.specs.FeedDay.{day_in, refusals_in}
use Rattle.cdm_files.specs.Readings.{HoldsFirst, IsFailed, IsTooLong, IsUnfailed, OfRead, Reading}
use Rattle.cdm_files.specs.ScenarioFile.{scenarios_in}
use Rattle.cdm_files.specs.declared.common_fault.CommonFault.TheVariants as common
use Rattle.cdm_files.specs.declared.run_error.RunError.{RunError}
use Rattle.cdm_files.specs.declared.run_error.RunError.TheVariants as error
use Rattle.cdm_feed.specs.Output.{IsMadeBy, IsReport}
use Rattle.cdm_feed.specs.declared.asked.DayText.{DayText}
use Rattle.cdm_feed.specs.declared.asked.DayText.TheVariants.{Table, Picture, Answer, Trace, Options}
use Rattle.cdm_feed.specs.declared.asked.DayText.TheVariants as told
use Rattle.cdm_feed.specs.declared.asked.Asked.{Asked}
use Rattle.cdm_feed.specs.declared.asked.Asked.TheVariants as ask
use Rattle.cdm_feed.specs.declared.counted.Counted.{Counted}
use Rattle.cdm_feed.specs.declared.counted.Counted.TheVariants as counted

-- What is made.

-- what is asked about: this day, or what becomes of it by the scenario of a name, which is the day with all updates of the
-- scenario, unless a word refuses one of them
abbrev pub IsAskedOf : Option (List ℕ) → DayRecord → List ScenarioRecord → Result DayRecord (ℕ × RefusalWord) → Type 0
IsAskedOf None d scenarios = λ by. by ≡ Ok d
IsAskedOf (Some name) d scenarios = λ by. IsSomeAnd (scenario_named scenarios name) (λ s. IsLaid d s.updates by)

-- the text answers a question of a day of which this is said
pub record IsView (format : Format) (question : DayQuestion) (IsDay : Result DayRecord (ℕ × RefusalWord) → Type 0) (text : List ℕ) : Type 0 where
  pub day : DayRecord
  pub is_day : IsDay (Ok day)
  pub plan : Plan
  pub of_day : IsDayPlan day plan
  pub answer : IsDayAnswer format question day plan text

-- the day of which this is said has no answer to the question
abbrev pub HasNoView : DayQuestion → (Result DayRecord (ℕ × RefusalWord) → Type 0) → ViewFault → Type 0
HasNoView question IsDay fault = (day : DayRecord) × IsDay (Ok day) × IsNotAnswered question day fault

-- the day knows the flight that is asked for, if one is
abbrev pub IsKnown : Option (List ℕ) → DayRecord → Type 0
IsKnown None d = ⊤
IsKnown (Some name) d = IsSome (flight_of d.airport d.journal name)

-- the text that is the plan of a day with its refused records, and the answer to each scenario: a report, or JSON
abbrev pub IsPlanIn : Format → DayRecord → List (ℕ × RefusalWord) → List ScenarioRecord → List ℕ → Type 0
IsPlanIn Text d refused scenarios text = IsReport d refused scenarios text
IsPlanIn Json d refused scenarios text = IsPlans d refused scenarios text

-- the text that tells which records of a feed at an airport moved whose start-up, or that of a flight that the day knows, from
-- a time of the airport's two days on
abbrev pub IsTraceSince : Option (List ℕ) → Option (List ℕ) → Format → AirportRows → List ℕ → List ℕ → Type 0
IsTraceSince flight since format g feed text =
    IsKnown flight (day_in g feed) × IsOkAnd (from_minute g.day since) (λ from. IsTrace format flight from g feed text)

-- the text that tells this of the day of an airport and a feed, and of scenarios over it
abbrev pub IsTextOf : DayText → AirportRows → List ℕ → List ScenarioRecord → List ℕ → Type 0
IsTextOf (told.Plan format) g feed = IsPlanIn format (day_in g feed) (refusals_in g feed)
IsTextOf (Table table) g feed = IsTable table (day_in g feed)
IsTextOf Picture g feed = IsPicture (day_in g feed)
IsTextOf (Answer question scenario format) g feed = λ questions. IsView format question (IsAskedOf scenario (day_in g feed) questions)
IsTextOf (Trace flight since format) g feed = λ questions. IsTraceSince flight since format g feed
IsTextOf (Options name role format) g feed = λ questions. let d = day_in g feed in IsOptionsText format d (flight_of d.airport d.journal name) role

-- the text that is made of the bytes of an airport file, of a feed and of a third file, and what is counted
abbrev pub IsMade : Asked → List ℕ → List ℕ → List ℕ → List ℕ → Counted → Type 0
IsMade (ask.Day asked) a f s text (counted.Day counts) = IsMadeBy (IsTextOf asked) a f s text counts
IsMade (ask.Check paths format) a f s text (counted.Check counts) = IsCheckAt format paths a f s text × (counts ≡ counts_at paths a f s)
IsMade (ask.Carry carry) a f s text (counted.Carry needs_care) = IsCarryText carry needs_care a f s text
IsMade asked a f s text other = ⊥

-- there is such a text
abbrev pub HaveText : Asked → List ℕ → List ℕ → List ℕ → Type 0
HaveText asked a f s = (text : List ℕ) × (counts : Counted) × IsMade asked a f s text counts

-- and one at most. Of a picture its height and its legend are only tested, and of a check its sentences.
abbrev pub HaveOne : Asked → List ℕ → List ℕ → List ℕ → Type 0
HaveOne (ask.Check paths format) a f s = ⊤
HaveOne (ask.Day Picture) a f s = ⊤
HaveOne asked a f s = (x y : List ℕ) (c d : Counted) → IsMade asked a f s x c → IsMade asked a f s y d → x ≡ y

-- Why nothing is made.

-- a table that isn't made, a question without an answer, and a flight that nothing could help, as errors of a run
abbrev pub table_error : TableFault → RunError
table_error (untabled.NamedAsDay number) = error.Scenario number Exists
table_error (untabled.NoScenario name) = error.NoScenario name
table_error untabled.OtherDay = error.OtherDay
table_error (untabled.Refused name number word) = error.Update name number word
table_error untabled.Memory = error.Common common.Memory

abbrev pub view_error : ViewFault → RunError
view_error (view.NoFlight name) = error.NoFlight name
view_error (view.NoRunway name) = error.NoRunway name
view_error view.Memory = error.Common common.Memory

abbrev pub options_error : OptionsFault → RunError
options_error (options.NoFlight name) = error.NoFlight name
options_error (options.NotPlanned name status) = error.NotPlanned name status
options_error options.Memory = error.Common common.Memory

-- why this isn't told of a day and scenarios: what is asked for isn't known, an update of the scenario is refused, the flight that is
-- to be helped has left its stand or won't depart, a scenario has the name that a comparison has for the day itself, or there is no
-- memory. A trace is asked for its time before its flight.
abbrev pub IsUntold : DayText → DayRecord → List ScenarioRecord → RunError → Type 0
IsUntold asked d questions (error.Common common.Memory) = ⊤
IsUntold (Answer question scenario format) d questions (error.NoFlight name) = HasNoView question (IsAskedOf scenario d questions) (view.NoFlight name)
IsUntold (Answer question scenario format) d questions (error.NoRunway name) = HasNoView question (IsAskedOf scenario d questions) (view.NoRunway name)
IsUntold (Answer question scenario format) d questions (error.NoScenario name) = (scenario ≡ Some name) × (scenario_named questions name ≡ None)
IsUntold (Answer question scenario format) d questions (error.Update name number word) = (scenario ≡ Some name) × IsAskedOf scenario d questions (Err (number, word))
IsUntold (Trace flight since format) d questions (error.NoFlight name) =
    IsOk (from_minute d.airport.day since) × (flight ≡ Some name) × (flight_of d.airport d.journal name ≡ None)
IsUntold (Trace flight since format) d questions error.OtherDay = IsErr (from_minute d.airport.day since)
IsUntold (Options flight role format) d questions (error.NoFlight name) = IsOptionsFault (flight_of d.airport d.journal flight) flight (options.NoFlight name)
IsUntold (Options flight role format) d questions (error.NotPlanned name status) =
    IsOptionsFault (flight_of d.airport d.journal flight) flight (options.NotPlanned name status)
IsUntold (Table table) d questions (error.Scenario number word) = (word ≡ Exists) × IsTableFault d questions table (untabled.NamedAsDay number)
IsUntold (Table table) d questions (error.NoScenario name) = IsTableFault d questions table (untabled.NoScenario name)
IsUntold (Table table) d questions error.OtherDay = IsTableFault d questions table untabled.OtherDay
IsUntold (Table table) d questions (error.Update name number word) = IsTableFault d questions table (untabled.Refused name number word)
IsUntold asked d questions fault = ⊥

-- the record of the scenario file that is faulty, or that gives a scenario the name that a comparison has for the day itself
abbrev pub IsScenarioFault : DayText → DayRecord → Result (List ScenarioRecord) (ℕ × RefusalWord) → ℕ → RefusalWord → Type 0
IsScenarioFault asked d (Err fault) number word = fault ≡ (number, word)
IsScenarioFault asked d (Ok questions) number word = IsUntold asked d questions (error.Scenario number word)

-- why whole inputs make no such text: the first faulty record, of the airport file or else of the scenario file, what the
-- day doesn't know, or want of memory. To a check a faulty record is a finding, and no fault. Where a day is carried over, the third
-- file is the next airport file.
abbrev pub IsUnmade : Asked → List ℕ → List ℕ → List ℕ → RunError → Type 0
IsUnmade (ask.Check paths format) a f s fault = fault ≡ error.Common common.Memory
IsUnmade (ask.Carry carry) a f s fault = IsUncarried a s fault
IsUnmade (ask.Day asked) a f s (error.Common fault) = IsAirportFault a fault
IsUnmade (ask.Day asked) a f s (error.Scenario number word) =
    IsOkAnd (airport_in a) (λ g. IsScenarioFault asked (day_in g f) (scenarios_in g.day s) number word)
IsUnmade (ask.Day asked) a f s fault =
    IsOkAnd (airport_in a) (λ g. IsOkAnd (scenarios_in g.day s) (λ questions. IsUntold asked (day_in g f) questions fault))

-- the first fault of a run: three inputs are read in their order, then they are asked why they make no text, and then the text is
-- written. Want of memory may come anywhere before the writing, but not in place of a failed read or of an input that is too long.
abbrev pub IsFirstOf : Asked → Reading → Reading → Reading → RunError → Type 0
IsFirstOf asked a f s (error.Common (common.Read name)) = HoldsFirst a f s (IsFailed name)
IsFirstOf asked a f s (error.Common (common.TooLong name)) = HoldsFirst a f s (IsTooLong name)
IsFirstOf asked a f s (error.Common common.Memory) = IsUnfailed a × IsUnfailed f × IsUnfailed s
IsFirstOf asked a f s (error.Common common.Write) = OfRead a f s (HaveText asked)
IsFirstOf asked a f s fault = OfRead a f s (λ x y z. IsUnmade asked x y z fault)
