use Rattle.std.{proofs.Common.◌≡◌, proofs.Common.◌++◌, proofs.Common.take, proofs.Common.map, specs.Prelude.flat_map}
use Rattle.cdm_picture.specs.{Places.runway_places, Sections.place_of}
use Rattle.cdm_picture.proofs.section.Drawing.push_runways.Given as goal

abbrev pub invariant-loop-runway : goal.invariant-loop-runway
invariant-loop-runway g l =
    map place_of l.drawn.flights.items ≡ map place_of l.initial.drawn.flights.items ++ flat_map (runway_places l.self.page.now.hours) (take l.runway-index l.runway-items)
