-- What is made of the bytes of three files, or why nothing is.
use Rattle.std.{proofs.Common.{◌≡◌, ℕ, List, Ok, Result, length, sym, subst}, specs.Result.IsOkAnd}
use Rattle.cdm_flight.specs.{Journal.AirportRows, declared.word.RefusalWord.RefusalWord}
use Rattle.cdm_plan.specs.Day.{DayRecord}
use Rattle.cdm_scenario.specs.Scenarios.{ScenarioRecord}
use Rattle.cdm_files.specs.{AirportFile.airport_in, CommonFaults.IsAirportFault, FeedDay.{day_in, refusals_in}, ScenarioFile.scenarios_in}
use Rattle.cdm_files.specs.declared.{common_fault.CommonFault.CommonFault, run_error.RunError.RunError}
use Rattle.cdm_files.specs.declared.common_fault.CommonFault.TheVariants as common
use Rattle.cdm_files.specs.declared.run_error.RunError.TheVariants as error
use Rattle.cdm_feed.specs.{Made.{IsMade, IsScenarioFault, IsTextOf, IsUnmade, IsUntold}, declared.asked.DayText.DayText}
use Rattle.cdm_feed.specs.declared.asked.DayText.TheVariants.{Plan, Table, Picture, Answer, Trace, Options}
use Rattle.cdm_feed.specs.declared.asked.Asked.TheVariants as ask
use Rattle.cdm_feed.specs.declared.counted.Counted.{Counted}
use Rattle.cdm_feed.specs.declared.counted.Counted.TheVariants as counted

-- of the faults that all runs can have, a day that is told has want of memory alone
common_fault : (asked : DayText) (a : List ℕ) (d : DayRecord) (questions : List ScenarioRecord) (fault : CommonFault)
    → IsUntold asked d questions (error.Common fault) → IsAirportFault a fault
common_fault (Plan format) a d questions common.Memory is = tt
common_fault (Plan format) a d questions _ is = absurd is
common_fault (Table table) a d questions common.Memory is = tt
common_fault (Table table) a d questions _ is = absurd is
common_fault Picture a d questions common.Memory is = tt
common_fault Picture a d questions _ is = absurd is
common_fault (Answer question scenario format) a d questions common.Memory is = tt
common_fault (Answer question scenario format) a d questions _ is = absurd is
common_fault (Trace flight since format) a d questions common.Memory is = tt
common_fault (Trace flight since format) a d questions _ is = absurd is
common_fault (Options flight role format) a d questions common.Memory is = tt
common_fault (Options flight role format) a d questions _ is = absurd is

module _ (a f s : List ℕ) (g : AirportRows) (questions : List ScenarioRecord) (airport : airport_in a ≡ Ok g) (scenarios : scenarios_in g.day s ≡ Ok questions) where
  -- what is so of this airport and these scenarios is so of those that the files say
  there : (P : AirportRows → List ScenarioRecord → Type 0) → P g questions → IsOkAnd (airport_in a) (λ h. IsOkAnd (scenarios_in h.day s) (P h))
  there P is =
      subst (λ (r : Result AirportRows (ℕ × RefusalWord)). IsOkAnd r (λ h. IsOkAnd (scenarios_in h.day s) (P h))) (sym airport)
      (subst (λ (r : Result (List ScenarioRecord) (ℕ × RefusalWord)). IsOkAnd r (P g)) (sym scenarios) is)

  -- why nothing is made
  pub unmade : (asked : DayText) (e : RunError) → IsUntold asked (day_in g f) questions e → IsUnmade (ask.Day asked) a f s e
  unmade asked (error.Common fault) is = common_fault asked a (day_in g f) questions fault is
  unmade asked (error.Scenario number word) is =
      subst (λ (r : Result AirportRows (ℕ × RefusalWord)). IsOkAnd r (λ h. IsScenarioFault asked (day_in h f) (scenarios_in h.day s) number word)) (sym airport)
      (subst (λ (r : Result (List ScenarioRecord) (ℕ × RefusalWord)). IsScenarioFault asked (day_in g f) r number word) (sym scenarios) is)
  unmade asked (error.NoFlight name) is = there (λ h q. IsUntold asked (day_in h f) q (error.NoFlight name)) is
  unmade asked (error.NotPlanned name status) is = there (λ h q. IsUntold asked (day_in h f) q (error.NotPlanned name status)) is
  unmade asked (error.NoRunway name) is = there (λ h q. IsUntold asked (day_in h f) q (error.NoRunway name)) is
  unmade asked (error.NoScenario name) is = there (λ h q. IsUntold asked (day_in h f) q (error.NoScenario name)) is
  unmade asked (error.NextAirport number word) is = there (λ h q. IsUntold asked (day_in h f) q (error.NextAirport number word)) is
  unmade asked (error.NextDay days) is = there (λ h q. IsUntold asked (day_in h f) q (error.NextDay days)) is
  unmade asked error.OtherDay is = there (λ h q. IsUntold asked (day_in h f) q error.OtherDay) is
  unmade asked (error.Update name number word) is = there (λ h q. IsUntold asked (day_in h f) q (error.Update name number word)) is

  -- what is made, with what is counted of the day
  pub made-of : (asked kind : DayText) (d : DayRecord) (refused : List (ℕ × RefusalWord)) (text all : List ℕ) (counts : Counted)
      (Told : DayRecord → List (ℕ × RefusalWord) → Type 0) → asked ≡ kind → (Told (day_in g f) (refusals_in g f) → IsTextOf kind g f questions text)
      → d ≡ day_in g f → refused ≡ refusals_in g f → Told d refused → all ≡ text
      → counts ≡ counted.Day (record { accepted = length d.journal; refused = length refused; scenarios = length questions })
      → IsMade (ask.Day asked) a f s all counts
  made-of asked kind d refused text all counts Told is gives state words told same count =
      let here : Told (day_in g f) (refusals_in g f) =
      subst (λ (w : List (ℕ × RefusalWord)). Told (day_in g f) w) words (subst (λ (x : DayRecord). Told x refused) state told) in
      let made : IsMade (ask.Day kind) a f s text (counted.Day (record { accepted = length d.journal; refused = length refused; scenarios = length questions })) =
      record {
        rows = g;
        airport_file = airport;
        questions = questions;
        scenario_file = scenarios;
        made = gives here;
        counted = λ i. record { accepted = length (state i).journal; refused = length (words i); scenarios = length questions };
      } in
      subst (λ (k : DayText). IsMade (ask.Day k) a f s all counts) (sym is)
      (subst (λ (t : List ℕ). IsMade (ask.Day kind) a f s t counts) (sym same) (subst (λ (c : Counted). IsMade (ask.Day kind) a f s text c) (sym count) made))
