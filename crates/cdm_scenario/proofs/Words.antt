-- Words of std and of the crates below that the proofs share.
pub use Rattle.cdm_day.specs.declared.change.Change.TheVariants.{NewFlight, NextRecord, Runway, TaxiRow, Values}
pub use Rattle.cdm_flight.specs.Accepted.{refusal_of}
pub use Rattle.cdm_flight.specs.Journal.{AirportRows, flight_of, runway_row, values_of}
pub use Rattle.cdm_flight.specs.Names.{is_letter_or_digit, same_name}
pub use Rattle.cdm_flight.specs.declared.flight.Flight.{Flight}
pub use Rattle.cdm_flight.specs.declared.update.Update.{Update}
pub use Rattle.cdm_plan.specs.Day.{DayRecord, flights_in, with_update}
unfoldable pub use Rattle.cdm_plan.specs.Day.{rules_of}
pub use Rattle.cdm_plan.specs.DayPlan.{IsRunwayAt}
pub use Rattle.cdm_plan.specs.Kept.{IsMade, IsSince, is_touched}
pub use Rattle.indexmap.specs.IndexMap.{Updates, get}
pub use Rattle.std.proofs.Common.{Bool, Err, IsTrue, List, None, Ok, Option, Some, [], ap, arith, false, length, refl, rules, slice_index, subst, suc}
pub use Rattle.std.proofs.Common.{sym, take, true, zero, ℕ, ◌++◌, ◌+◌, ◌-◌, ◌<◌, ◌==◌, ◌||◌, ◌∙◌, ◌∷◌, ◌≡◌, ◌≤◌}
pub use Rattle.std.proofs.lemmas.Grind.{common_steps}
pub use Rattle.std.proofs.lemmas.List.{append-nil, append_assoc}
pub use Rattle.std.specs.Option.{option_and_then, option_copied, option_map, option_or}
pub use Rattle.std.specs.Prelude.{if◌then◌else◌, is_none, is_some, not, slice_get, unwrap_or}
