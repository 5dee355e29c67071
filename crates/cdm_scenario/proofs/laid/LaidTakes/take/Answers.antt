use Rattle.cdm_scenario.proofs.Words.{[], ◌∷◌, ◌++◌, refl, sym, ap, ◌∙◌, option_copied, append-nil, append_assoc, Flight, NewFlight}
use Rattle.cdm_scenario.proofs.Words.{NextRecord, Runway, TaxiRow, Values}
use Rattle.cdm_scenario.proofs.OverlayLemmas.{over_change, row_fits, runway_changed, runway_there, runways_left, taxi_left, taxi_set}
use Rattle.cdm_scenario.proofs.OverlayLemmas.{window_over}
use Rattle.cdm_scenario.proofs.laid.LaidTakes.take.Goals.{in-NewFlight+in_ok-reserve-in-NewFlight+in_ok-insert-in-NewFlight}
use Rattle.cdm_scenario.proofs.laid.LaidTakes.take.Goals.{in-NextRecord+in_ok-insert-in-NextRecord}
use Rattle.cdm_scenario.proofs.laid.LaidTakes.take.Goals.{in-Runway+in-Some+in_ok-change_over-in-Runway}
use Rattle.cdm_scenario.proofs.laid.LaidTakes.take.Goals.{in-TaxiRow+in_ok-set_over-in-TaxiRow, in-Values}
use Rattle.cdm_day.proofs.TableLemmas.{has_record}
use Rattle.cdm_scenario.proofs.laid.LaidTakes.take.Goals as goal

pub set_over-requires : goal.set_over-requires
set_over-requires c =
    let t = c.in-TaxiRow in
    row_fits c.self.invariant c.self.view_is c.args.update c.requires.accepted t.place t.runway t.minutes (rw t.is at c.requires.change) c.taxi.result.now c.taxi.ensures.value

pub unreachable-requires : goal.unreachable-requires
unreachable-requires c =
    let r = c.in-Runway in
    runway_there c.self.invariant c.self.view_is c.args.update c.requires.accepted r.name r.change (rw r.is at c.requires.change) (sym c.runway_named.ensures.value ∙ ap option_copied c.in_default.is)

pub change_over-requires : goal.change_over-requires
change_over-requires c =
    let r = c.in-Runway in
    window_over c.self.invariant c.self.view_is c.args.update c.requires.accepted r.name r.change (rw r.is at c.requires.change) c.in-Some.base.now
    (sym c.runway_named.ensures.value ∙ ap option_copied c.in-Some.is)

pub invariant_of-self-2 : goal.invariant_of-self-2
invariant_of-self-2 c =
    let told = c.self.invariant in
    let u = c.args.update in
    let good = rw (← c.self.view_is) at c.requires.accepted in
    let what = rw (← c.self.view_is) at c.requires.change in
    let new = c.self.inside.new_flights.items in
    let none = sym (append-nil new) in
    rw (c.push_reserved-2.ensures) (elim c.match-change.branch [
      | in-NewFlight+in_ok-reserve-in-NewFlight+in_ok-insert-in-NewFlight w ↦
          let change = NewFlight w.in-NewFlight.flight in
          let is = rw w.in-NewFlight.is at what in
          let put = rw (ap (λ (r : Flight). r.name) w.flight.view_is) at w.in_ok-insert-in-NewFlight.ensures.updates in
          rw (w.self-inside-is, c.in_ok-reserve.ensures.items, w.push_reserved.ensures, w.in_ok-reserve-in-NewFlight.ensures.items, ← append_assoc)
          (over_change told refl u good change is _ _ _ _ _
          (has_record c.self.inside.flights w.insert.new.self w.in-NewFlight.flight (put.1, put.2))
          (ap (λ (r : Flight). new ++ r.name ∷ []) w.flight-in-NewFlight.view_is)
          (runways_left told refl u good change is (λ x. refl)) (taxi_left told refl u good change is (λ x. refl)) refl)
      | in-NextRecord+in_ok-insert-in-NextRecord w ↦
          let change = NextRecord w.in-NextRecord.flight in
          let is = rw w.in-NextRecord.is at what in
          let put = rw (ap (λ (r : Flight). r.name) w.flight-in-NextRecord.view_is) at w.in_ok-insert-in-NextRecord.ensures.updates in
          rw (w.self-inside-is, c.in_ok-reserve.ensures.items, ← append_assoc)
          (over_change told refl u good change is _ _ _ _ _
          (has_record c.self.inside.flights w.insert-in-NextRecord.new.self w.in-NextRecord.flight (put.1, put.2)) none
          (runways_left told refl u good change is (λ x. refl)) (taxi_left told refl u good change is (λ x. refl)) refl)
      | in-Runway+in-Some+in_ok-change_over-in-Runway w ↦
          let r = w.in-Runway in
          let change = Runway r.name r.change in
          let is = rw r.is at what in
          let at = sym w.runway_named.ensures.value ∙ ap option_copied w.in-Some.is in
          rw (w.self-inside-is, c.in_ok-reserve.ensures.items, ← append_assoc)
          (over_change told refl u good change is _ _ _ _ _ (λ f. refl) none
          (runway_changed told refl u good r.name r.change is w.in-Some.base.now at w.change_over.new.own w.in_ok-change_over-in-Runway.ensures.ok)
          (taxi_left told refl u good change is (λ x. refl)) refl)
      | in-TaxiRow+in_ok-set_over-in-TaxiRow w ↦
          let t = w.in-TaxiRow in
          let change = TaxiRow t.place t.runway t.minutes in
          let is = rw t.is at what in
          rw (w.self-inside-is, c.in_ok-reserve.ensures.items, w.in_ok-set_over-in-TaxiRow.ensures.ok, ← append_assoc)
          (over_change told refl u good change is _ _ _ _ _ (λ f. refl) none
          (runways_left told refl u good change is (λ x. refl)) (taxi_set told refl u good t.place t.runway t.minutes is w.taxi.result.now w.taxi.ensures.value) refl)
      | in-Values w ↦
          let change = Values w.in-Values.values in
          let is = rw w.in-Values.is at what in
          rw (w.self-inside-is, c.in_ok-reserve.ensures.items, ← append_assoc)
          (over_change told refl u good change is _ _ _ _ _ (λ f. refl) none
          (runways_left told refl u good change is (λ x. refl)) (taxi_left told refl u good change is (λ x. refl)) refl)
    ])
