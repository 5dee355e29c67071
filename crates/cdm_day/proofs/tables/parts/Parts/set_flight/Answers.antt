use Rattle.cdm_day.proofs.{Words.{◌≡◌, sym, ap, ◌∙◌, map, values_of, insert_index, values, same_name}, BriefLemmas.given-insert_entry}
use Rattle.cdm_day.specs.inner.Briefs.{brief_by, put_at}
use Rattle.std.specs.Arc.{arc_value}
use Rattle.cdm_day.proofs.tables.parts.Parts.set_flight.Goals as goal

pub returns-clause-briefs : goal.returns-clause-briefs
returns-clause-briefs c = λ kept.
    let rows = arc_value c.args.self.now.taxi in
    let flights = arc_value c.args.self.now.flights in
    let flight = c.args.flight in
    let so_far = map (brief_by rows) (values flights) in
    let brief = ap (λ t. brief_by t flight) c.deref.ensures in
    let place : c.in_ok-place.place ≡ insert_index same_name flights flight.name = c.in_ok-place.ensures.place in
    let put = c.briefs_with.ensures so_far (λ x e. kept x (sym c.take-briefs.ensures.value ∙ e)) in
    let one_more = given-insert_entry (brief_by rows) same_name flight.name flight flights.entries in
    λ x e. put x e ∙ ((λ i. put_at so_far (place i) (brief i))
    ∙ (sym one_more ∙ ap (λ es. map (brief_by rows) (values_of es)) (sym c.in_ok-place.ensures.entries)))
