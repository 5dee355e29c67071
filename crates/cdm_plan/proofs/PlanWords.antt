-- Words of flights, runways, days and plans that the proofs share.
use Rattle.std.specs.Prelude.{ℕ, List, Option, None, if◌then◌else◌}
pub use Rattle.cdm_plan.specs.Airport.{IsAirport, runway_names}
pub use Rattle.cdm_plan.specs.Day.{DayRecord, flights_in, with_update}
unfoldable pub use Rattle.cdm_plan.specs.Day.{rules_of}
pub use Rattle.cdm_plan.specs.DayPlan.{AreByName, IsDayAllowed, IsDayFirst, IsRunwayAt, day_rules, records_in}
unfoldable pub use Rattle.cdm_plan.specs.DayPlan.{IsDayPlan, IsDayPlanBy}
pub use Rattle.cdm_plan.specs.Planning.{AreAims, HasParts, IsPlanOf, blocked_in, early_in, gone_of, planned_of, target_in, targets_in, targets_on}
unfoldable pub use Rattle.cdm_plan.specs.Planning.{fixed_on}
pub use Rattle.cdm_plan.specs.Sound.{IsSound}
pub use Rattle.cdm_plan.specs.inner.Aimed.{CanSequence, IsAimed, IsAimedBy, early_among, if_on, if_passes, is_on, target_for}
pub use Rattle.cdm_plan.specs.Kept.{Adds, AreKept, AreSameElsewhere, IsMade, IsPlanOn, IsSince, asked_of, fixed_in, is_counted, is_early}
pub use Rattle.cdm_plan.specs.Kept.{is_kept_blocked, is_noted, is_touched, is_untouched, kept_blocked, kept_of, kept_plan}
pub use Rattle.cdm_plan.specs.Brief.{counted_on, counts}
pub use Rattle.cdm_plan.specs.inner.Together.{Together}
pub use Rattle.cdm_flight.proofs.JournalLemmas.{flight_of-untouched, status_of-record, taxi_of-untouched, values_of-untouched}
pub use Rattle.cdm_flight.specs.Accepted.{flight_refusal, has_runway, is_disordered, is_full, is_unknown}
unfoldable pub use Rattle.cdm_flight.specs.Accepted.{refusal_of}
pub use Rattle.cdm_flight.specs.Journal.{AirportRows, cap_given, closed_given, is_known, last_value, of_flight, runway_row, taxi_of, values_of}
unfoldable pub use Rattle.cdm_flight.specs.Journal.{flight_of}
pub use Rattle.cdm_flight.specs.Names.{name_cmp, same_name}
pub use Rattle.cdm_flight.specs.Record.{is_planned}
pub use Rattle.cdm_flight.specs.declared.flight.Flight.{Flight}
pub use Rattle.cdm_flight.specs.Reach.{flight_of_update, reach_of, same_reach}
pub use Rattle.cdm_flight.specs.Spacing.{no_spacing}
pub use Rattle.cdm_flight.specs.Step.{is_fresh}
pub use Rattle.cdm_flight.specs.declared.airport.RunwayRow.{RunwayRow}
pub use Rattle.cdm_flight.specs.declared.place.Place.{Place}
pub use Rattle.cdm_flight.specs.declared.update.Update.{Update}
pub use Rattle.cdm_flight.specs.declared.values.DayValues.{DayValues}
pub use Rattle.cdm_runway.specs.Rules.{RunwayRules}
pub use Rattle.cdm_sequence.proofs.AimLemmas.{aim_is, aim_means}
unfoldable pub use Rattle.cdm_sequence.proofs.AimLemmas.{aim_of}
pub use Rattle.cdm_sequence.proofs.OrderLemmas.{is_same, same_flips, same_is, tied_names}
pub use Rattle.cdm_sequence.specs.Aims.{IsAim, TaxiTimes}
pub use Rattle.cdm_sequence.specs.Fixed.{slot_by, takeoffs}
unfoldable pub use Rattle.cdm_sequence.specs.Fixed.{fixed_slot}
pub use Rattle.cdm_sequence.specs.Plan.{IsAllowed, IsEarlier, Placing}
pub use Rattle.cdm_sequence.specs.Sequence.{IsSequence, IsSequenceBy, flight_names}
pub use Rattle.cdm_sequence.specs.declared.plan.Plan.{Plan}
pub use Rattle.cdm_sequence.specs.declared.plan.RunwayPlan.{RunwayPlan}
pub use Rattle.cdm_sequence.specs.declared.slot.Slot.{Slot}
pub use Rattle.cdm_sequence.specs.declared.target.Target.{Target}
pub use Rattle.cdm_sequence.specs.declared.aims.AimResult.{AimResult}
pub use Rattle.cdm_sequence.specs.declared.slot.BlockedFlight.{BlockedFlight}
pub use Rattle.cdm_flight.specs.declared.update.Update.TheVariants.{Flt}
pub use Rattle.cdm_sequence.specs.declared.aims.AimResult.TheVariants.{Early, Ready}

-- the flight that an FLT makes known
abbrev pub new_flight : Update → Option (List ℕ)
new_flight u = if is_fresh u then flight_of_update u else None
