-- What is drawn of one day.
use Rattle.std.specs.Prelude.{◌≡◌, ℕ, List, [], ◌∷◌, codes, map}
use Rattle.std.specs.Fmt.{decimal}
use Rattle.std.specs.List.{concat}
use Rattle.cdm_flight.specs.Words.{text_of}
use Rattle.cdm_flight.specs.declared.word.RefusalWord.{RefusalWord}
use Rattle.cdm_sequence.specs.declared.plan.Plan.{Plan}
use Rattle.cdm_picture.specs.Places.{HaveTakeOffs, Place, plan_places}
use Rattle.cdm_picture.specs.declared.hours.Hours.{Hours}
use Rattle.cdm_picture.specs.declared.marks.FlightMark.{FlightMark}
use Rattle.cdm_picture.specs.declared.marks.Section.{Section}

-- the heading of a scenario
unfoldable pub scenario_heading : List ℕ → List ℕ
scenario_heading name = concat (codes "SCENARIO " ∷ name ∷ [])

-- the heading of one that is refused: the number of the update that is, and the word
unfoldable pub refused_heading : List ℕ → ℕ → RefusalWord → List ℕ
refused_heading name number word =
    concat (codes "SCENARIO " ∷ name ∷ codes " REFUSED " ∷ decimal number ∷ codes " " ∷ text_of word ∷ [])

-- the slot of a mark, and where its take-off is
abbrev pub place_of : FlightMark → Place
place_of m = record { runway = m.runway; slot = m.slot; x = m.x }

-- the hours have each take-off of the plan, each slot of it has one mark, at the place of its TTOT, and each blocked
-- flight one line, with its rule
pub record ShowsPlan (hours : Hours) (plan : Plan) (s : Section) : Type 0 where
  pub within : HaveTakeOffs hours plan
  pub flights : map place_of s.flights.items ≡ plan_places hours plan
  pub blocked : map (λ m. m.flight) s.blocked.items ≡ plan.blocked

-- no flight is shown
pub record IsEmpty (s : Section) : Type 0 where
  pub flights : s.flights.items ≡ []
  pub blocked : s.blocked.items ≡ []
