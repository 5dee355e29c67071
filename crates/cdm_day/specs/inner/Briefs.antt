-- The flights of a day in brief, in the order in which they were made known.
use Rattle.std.specs.Prelude.{◌≡◌, ℕ, zero, suc, List, [], ◌∷◌, Option, map}
use Rattle.std.specs.Arc.{arc_value}
use Rattle.std.specs.declared.alloc.Global.{Global}
use Rattle.std.specs.declared.sync.Arc.{Arc}
use Rattle.std.specs.declared.vec.Vec.{Vec}
use Rattle.std.specs.FinMap.{get}
use Rattle.std.specs.Option.{ForSome}
use Rattle.indexmap.specs.IndexMap.{values}
use Rattle.cdm_flight.specs.declared.flight.Flight.{Flight}
use Rattle.cdm_flight.specs.Taxi.{TaxiRows}
use Rattle.cdm_plan.specs.Brief.{brief_of}
use Rattle.cdm_plan.specs.declared.brief.Brief.{Brief}
use Rattle.cdm_day.specs.declared.tables.parts.Parts.{Parts}

-- a flight in brief, by these taxi rows
abbrev pub brief_by : TaxiRows → Flight → Brief
brief_by rows f = brief_of (λ place runway. get rows (place, runway)) f

-- what is kept is this list, if it is kept
abbrev pub AreKeptAs : Option (Arc (Vec Brief Global) Global) → List Brief → Type 0
AreKeptAs kept briefs = ForSome kept (λ k. (arc_value k).items ≡ briefs)

-- flights that are kept in brief are so kept by the taxi rows
abbrev pub AreBrief : Parts → Type 0
AreBrief parts = AreKeptAs parts.briefs (map (brief_by (arc_value parts.taxi)) (values (arc_value parts.flights)))

-- the list with this at the place, behind the others where it has no such place
abbrev pub put_at : {X : Type 0} → List X → ℕ → X → List X
put_at [] place y = y ∷ []
put_at (x ∷ xs) zero y = y ∷ xs
put_at (x ∷ xs) (suc place) y = x ∷ put_at xs place y
