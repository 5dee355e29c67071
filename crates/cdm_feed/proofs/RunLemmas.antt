-- The first fault of a run, by why its whole inputs make no text.
use Rattle.std.proofs.{Common.{◌≡◌, ◌∙◌, ℕ, List, Option, IfSome, Result, Ok, Err, ap, refl, sym, subst}, lemmas.Option.IfSome_then}
use Rattle.std.specs.{Prelude.{⊤, IsOk}, Result.{IsErrOf, IsOkAnd}}
use Rattle.cdm_flight.specs.{Journal.AirportRows, declared.word.RefusalWord.RefusalWord}
use Rattle.cdm_plan.specs.Day.{DayRecord}
use Rattle.cdm_scenario.specs.Scenarios.{ScenarioRecord}
use Rattle.cdm_files.specs.{AirportFile.airport_in, CommonFaults.{IsAirportFault, IsFirstInputFault}, FeedDay.day_in, Readings.{AreRead, OfBytes, OfRead, Reading}}
use Rattle.cdm_files.specs.{RunFaults.{Asks, IsFirstFault, IsRecordFault}, ScenarioFile.scenarios_in}
use Rattle.cdm_files.specs.declared.{common_fault.CommonFault.CommonFault, run_error.RunError.RunError}
use Rattle.cdm_files.specs.declared.common_fault.CommonFault.TheVariants as common
use Rattle.cdm_files.specs.declared.run_error.RunError.TheVariants as error
use Rattle.cdm_feed.specs.{Made.{HaveText, IsFirstOf, IsMade, IsScenarioFault, IsUnmade}, Output.IsOutput, Counts.day_counts}
use Rattle.cdm_feed.specs.declared.{asked.DayText.DayText, asked.Asked.Asked, counted.Counted.Counted}
use Rattle.cdm_kinds.specs.declared.format.Format.TheVariants.{Text}
use Rattle.cdm_feed.specs.declared.asked.DayText.TheVariants as told
use Rattle.cdm_feed.specs.declared.asked.Asked.TheVariants as ask
use Rattle.cdm_feed.specs.declared.counted.Counted.TheVariants as counted

-- what is said of these bytes, which are those that were read
pub of-read : {P : List ℕ → List ℕ → List ℕ → Type 0} {a s t : Option (List ℕ)} (x y z : List ℕ)
    → IfSome a (λ all. x ≡ all) → IfSome s (λ all. y ≡ all) → IfSome t (λ all. z ≡ all) → P x y z → OfBytes a s t P
of-read x y z first second third p =
    record { airport = x; second = y; third = z; of_airport = first; of_second = second; of_third = third; holds = p }

-- the same of those that their readers gave
of-given : (P : List ℕ → List ℕ → List ℕ → Type 0) (a s t : Reading) (x y z : List ℕ) → AreRead a s t → a.Gave x → s.Gave y → t.Gave z
    → IfSome a.before (λ all. x ≡ all) → IfSome s.before (λ all. y ≡ all) → IfSome t.before (λ all. z ≡ all) → P x y z → OfRead a s t P
of-given P a s t x y z read one two three first second third p = (read, of-read x y z first second third (one, two, three, p))

-- a fault of the inputs is the first, whatever is asked for
pub input-first : (asked : Asked) (a f s : Reading) (e : CommonFault) → IsFirstInputFault a f s e → IsFirstOf asked a f s (error.Common e)
input-first asked a f s (common.Airport number word) fault = absurd fault
input-first asked a f s common.Write fault = absurd fault
input-first asked a f s _ fault = fault

-- of the faults that all runs can have, whole inputs have want of memory or a faulty record of the airport file
abbrev OfAirport : List ℕ → RunError → Type 0
OfAirport x (error.Common e) = IsAirportFault x e
OfAirport x e = ⊤

unmade-common : (asked : Asked) (x y z : List ℕ) (e : CommonFault) → IsUnmade asked x y z (error.Common e) → IsAirportFault x e
unmade-common (ask.Day asked) x y z e fault = fault
unmade-common (ask.Check paths format) x y z e fault = subst (OfAirport x) (sym fault) tt
unmade-common (ask.Carry carry) x y z e fault = fault

-- and so is why whole inputs make no text, where they were read
module _ (asked : Asked) (a f s : Reading) (x y z : List ℕ) (read : AreRead a f s) (one : a.Gave x) (two : f.Gave y) (three : s.Gave z)
    (first : IfSome a.before (λ all. x ≡ all)) (second : IfSome f.before (λ all. y ≡ all)) (third : IfSome s.before (λ all. z ≡ all)) where
  pub unmade-first : (e : RunError) → IsUnmade asked x y z e → IsFirstOf asked a f s e
  unmade-first (error.Common (common.Read name)) fault = absurd (unmade-common asked x y z (common.Read name) fault)
  unmade-first (error.Common (common.TooLong name)) fault = absurd (unmade-common asked x y z (common.TooLong name) fault)
  unmade-first (error.Common common.Memory) fault = (read.0.unfailed, read.1.unfailed, read.2.unfailed)
  unmade-first (error.Common common.Write) fault = absurd (unmade-common asked x y z common.Write fault)
  unmade-first e fault = of-given (λ x y z. IsUnmade asked x y z e) a f s x y z read one two three first second third fault

  -- and so is a failed write of a text that they make
  pub write-first : HaveText asked x y z → IsFirstOf asked a f s (error.Common common.Write)
  write-first made = of-given (HaveText asked) a f s x y z read one two three first second third made

-- what follows of the airport file, if it is accepted
ok-more : {A E : Type 0} (P Q : A → Type 0) (r : Result A E) → ((x : A) → P x → Q x) → IsOkAnd r P → IsOkAnd r Q
ok-more P Q (Ok x) more is = more x is
ok-more P Q (Err e) more is = is

-- a faulty record is why they make none
pub record_unmade : (asked : DayText) (a f s : List ℕ) (e : RunError) → IsRecordFault a s e → IsUnmade (ask.Day asked) a f s e
record_unmade asked a f s (error.Common e) fault = fault
record_unmade asked a f s (error.Scenario number word) fault =
    ok-more (λ (g : AirportRows). scenarios_in g.day s ≡ Err (number, word)) (λ (g : AirportRows). IsScenarioFault asked (day_in g f) (scenarios_in g.day s) number word)
    (airport_in a)
    (λ g is. subst (λ (r : Result (List ScenarioRecord) (ℕ × RefusalWord)). IsScenarioFault asked (day_in g f) r number word) (sym is) refl) fault
record_unmade asked a f s _ fault = absurd fault

-- Where a report is asked for.

-- the text is that of the feed and its scenarios
pub report-output : (x y z text : List ℕ) (c : Counted) → IsMade (ask.Day (told.Plan Text)) x y z text c → IsOutput x y z text (day_counts c)
report-output x y z text (counted.Day counts) made = made
report-output x y z text (counted.Check counts) made = absurd made
report-output x y z text (counted.Carry care) made = absurd made

ok-said : {A E : Type 0} (r : Result A E) (x : A) → r ≡ Ok x → IsOk r
ok-said r x is = subst IsOk (sym is) refl

-- a report is made of an airport file that is accepted, and of a scenario file too
report-asks : (x y z text : List ℕ) (c : Counted) → IsMade (ask.Day (told.Plan Text)) x y z text c → Asks IsOk x z
report-asks x y z text (counted.Day counts) made =
    subst (λ r. IsOkAnd r (λ g. IsOk (scenarios_in g.day z))) (sym made.airport_file) (ok-said (scenarios_in made.rows.day z) made.questions made.scenario_file)
report-asks x y z text (counted.Check counts) made = absurd made
report-asks x y z text (counted.Carry care) made = absurd made

-- what is said of the airport file and the scenario file
of-two : {P : List ℕ → List ℕ → List ℕ → Type 0} (Q : List ℕ → List ℕ → Type 0) (a f s : Option (List ℕ))
    → ((x y z : List ℕ) → P x y z → Q x z) → OfBytes a f s P → IfSome a (λ x. IfSome s (Q x))
of-two Q a f s more of =
    IfSome_then a of.of_airport (λ x is. IfSome_then s of.of_third (λ z so.
    subst (Q x) so (subst (λ bytes. Q bytes of.third) is (more of.airport of.second of.third of.holds))))

-- a report asks for nothing that could be unknown
never : {A B E F : Type 0} (r : Result A E) (next : A → Result B F) → IsOkAnd r (λ g. IsOkAnd (next g) (λ b. ⊥)) → ⊥
never (Ok g) next h = by (next g) h
  where
    by : {B F : Type 0} (q : Result B F) → IsOkAnd q (λ b. ⊥) → ⊥
    by (Ok b) h = h
    by (Err e) h = h
never (Err e) next h = h

-- and of its scenarios it refuses none for its name
plan-fault : (d : DayRecord) (said : Result (List ScenarioRecord) (ℕ × RefusalWord)) (number : ℕ) (word : RefusalWord)
    → IsScenarioFault (told.Plan Text) d said number word → said ≡ Err (number, word)
plan-fault d (Err fault) number word is = ap Err is
plan-fault d (Ok questions) number word is = absurd is

-- and so the first fault is that of a run that makes a report
pub report-first : (a f s : Reading) (e : RunError) → IsFirstOf (ask.Day (told.Plan Text)) a f s e → IsFirstFault a f s e
report-first a f s (error.Common common.Write) fault =
    (fault.0, of-two (Asks IsOk) a.before f.before s.before (λ x y z h. report-asks x y z h.3.0 h.3.1 h.3.2) fault.1)
report-first a f s (error.Common (common.Airport number word)) fault =
    (fault.0, IfSome_then a.before fault.1.of_airport (λ bytes same. sym (ap airport_in same) ∙ fault.1.holds.3))
report-first a f s (error.Common _) fault = fault
report-first a f s (error.Scenario number word) fault = (
  fault.0,
  of-two (Asks (λ said. said ≡ Err (number, word))) a.before f.before s.before
      (λ x y z h. ok-more (λ (g : AirportRows). IsScenarioFault (told.Plan Text) (day_in g y) (scenarios_in g.day z) number word)
      (λ (g : AirportRows). scenarios_in g.day z ≡ Err (number, word)) (airport_in x)
      (λ g is. plan-fault (day_in g y) (scenarios_in g.day z) number word is) h.3) fault.1,
)
report-first a f s _ fault = absurd (never (airport_in fault.1.airport) (λ g. scenarios_in g.day fault.1.third) fault.1.holds.3)

-- an error is the same, whatever would have been answered in its place
abbrev as-error : {T U E : Type 0} → E → Result T E → Result U E
as-error e (Ok x) = Err e
as-error e (Err other) = Err other

pub same-error : {T U E : Type 0} (e x : E) → IsErrOf {T = T} (Err e) x → IsErrOf {T = U} (Err e) x
same-error e x is = ap (as-error e) is
