use Rattle.std.proofs.Common.{◌≡◌, ◌++◌, take, map}
use Rattle.cdm_picture.specs.{Places.slot_place, Sections.place_of}
use Rattle.cdm_picture.proofs.section.Drawing.push_flights.Given as goal

abbrev pub invariant-loop-slot : goal.invariant-loop-slot
invariant-loop-slot g l = map place_of l.flights.items ≡ map place_of l.initial.flights.items ++ map (slot_place l.self.page.now.hours l.runway.runway) (take l.slot-index l.slot-items)
