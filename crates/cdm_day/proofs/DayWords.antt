-- Words of flights, runways, and days that the proofs share.
pub use Rattle.std.specs.Bool.{then_some}
pub use Rattle.cdm_time.specs.Windows.{window_has}
pub use Rattle.cdm_day.specs.Airport.{with_runway, with_taxi}
pub use Rattle.cdm_plan.specs.Airport.{IsAirport, runway_names}
pub use Rattle.cdm_plan.specs.Day.{DayRecord, flights_in, with_update}
unfoldable pub use Rattle.cdm_plan.specs.Day.{rules_of}
pub use Rattle.cdm_plan.specs.DayPlan.{AreByName}
pub use Rattle.cdm_day.specs.Changes.{ChangesRunway, IsChange, has_window, with_change}
pub use Rattle.cdm_day.specs.inner.Tables.{plain_of}
pub use Rattle.cdm_plan.specs.Sound.{IsSound, TellTaxi}
pub use Rattle.cdm_plan.specs.Kept.{AreKept, IsSince}
pub use Rattle.cdm_flight.proofs.JournalLemmas.{aobt_of, atot_of, is_cancelled, before_off-all, flight_of-fresh, flight_of-step, flight_of-untouched, last_value-push, planned_says}
pub use Rattle.cdm_flight.proofs.JournalLemmas.{same_name-refl, status_of-record, taxi_of-untouched, touching-push, untouched}
pub use Rattle.cdm_flight.proofs.JournalLemmas.{values_of-untouched}
pub use Rattle.cdm_flight.specs.Accepted.{after_one, has_runway, is_full, is_unknown, stand_with_taxi, stands_with_rows}
unfoldable pub use Rattle.cdm_flight.specs.Accepted.{accepted, refusal, refusal_of, replies_to}
pub use Rattle.cdm_flight.specs.Journal.{AirportRows, cap_given, cap_of, closed_given, closed_of, exot_now, is_known}
pub use Rattle.cdm_flight.specs.Journal.{last_value, of_flight, record_with, runway_given, runway_of, runway_row, same_place, status_from}
pub use Rattle.cdm_flight.specs.Journal.{status_of, taxi_given, taxi_of}
unfoldable pub use Rattle.cdm_flight.specs.Journal.{exot_of, flight_of, values_of}
pub use Rattle.cdm_flight.specs.Names.{same_name}
pub use Rattle.cdm_flight.specs.declared.flight.Flight.{Flight}
pub use Rattle.cdm_flight.specs.Reach.{flight_in, flight_of_update, reach_of, runway_of_update, same_reach, touching}
pub use Rattle.cdm_flight.specs.Step.{is_fresh, or_refused, step_of, step_refusal}
pub use Rattle.cdm_flight.specs.Taxi.{TaxiRows, is_new_stand, is_one_stand_too_many, stand_of_place, stands_in, taxi_cmp, taxi_out}
pub use Rattle.cdm_flight.specs.declared.airport.RunwayRow.{RunwayRow}
pub use Rattle.cdm_flight.specs.declared.place.Place.{Place}
pub use Rattle.cdm_flight.specs.declared.update.Update.{Update}
pub use Rattle.cdm_runway.proofs.RulesLemmas.{rate_window-in_order, rate_window-says}
pub use Rattle.cdm_runway.specs.Rules.{RunwayRules, is_rate_window, with_closed, with_range, with_rate}
unfoldable pub use Rattle.cdm_runway.specs.Rules.{plain_rules}
pub use Rattle.cdm_sequence.specs.declared.plan.Plan.{Plan}
pub use Rattle.cdm_sequence.specs.declared.plan.RunwayPlan.{RunwayPlan}
pub use Rattle.cdm_taxi.proofs.StandLemmas.{distinct_count-same, has_row-insert, is_stand_of, stand_count-empty, stand_count-insert}
pub use Rattle.cdm_flight.specs.declared.update.Update.TheVariants.{Close, Flt, Off, Rate, Reopen, Rwy, Taxi}
