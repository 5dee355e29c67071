-- Words that the proofs share.
pub use Rattle.cdm_flight.specs.Journal.{AirportRows, flight_of}
pub use Rattle.cdm_flight.specs.Words.{text_of}
pub use Rattle.cdm_flight.specs.declared.flight.Flight.{Flight}
pub use Rattle.cdm_flight.specs.declared.word.RefusalWord.{RefusalWord}
pub use Rattle.cdm_plan.proofs.NameLemmas.{all_taken, in_order, length-by_name, rules_by_name, rules_in, runway_is, take-next}
pub use Rattle.cdm_plan.specs.Day.{DayRecord, flights_in}
pub use Rattle.cdm_plan.specs.DayPlan.{AreByName, IsDayPlan}
pub use Rattle.cdm_report.specs.Counts.{counts_of}
pub use Rattle.cdm_row.proofs.TokenLemmas.{array_written, object_written}
pub use Rattle.cdm_row.specs.Changed.{row_named}
pub use Rattle.cdm_row.specs.Columns.{Value, value_of}
pub use Rattle.cdm_row.specs.Json.{array_of, count_json, json_value, member_tokens, object_of, row_json}
pub use Rattle.cdm_row.specs.declared.row.Row.{Row}
pub use Rattle.cdm_runway.specs.Rules.{RunwayRules}
pub use Rattle.cdm_sequence.specs.Words.{all_rules}
pub use Rattle.cdm_sequence.specs.declared.plan.Plan.{Plan}
pub use Rattle.cdm_time.specs.Times.{date_text, time_text}
pub use Rattle.cdm_time.specs.declared.calendar.CalendarDate.{CalendarDate}
pub use Rattle.cdm_view.specs.Load.{flights_in_cell, is_asked, usual_cap}
pub use Rattle.json.specs.Json.{Json, if_last, max_depth, string, value}
pub use Rattle.json.specs.Print.{ends, print}
unfoldable pub use Rattle.json.specs.Print.{print_from}
pub use Rattle.json.specs.Token.{Token, begin_array, begin_object, end_array, end_object, key}
pub use Rattle.json.specs.Tree.{depth, json_tokens}
pub use Rattle.std.proofs.Common.{Bool, Err, IfOk, List, None, Ok, Option, Result, Some, [], ap, append-nil, append_assoc, arith, cond, false, fold}
pub use Rattle.std.proofs.Common.{get_or, length, map, refl, rules, subst, suc, sym, take, true, zero, ℕ, ◌++◌, ◌+◌, ◌-◌, ◌<◌, ◌==◌, ◌∙◌, ◌∷◌}
pub use Rattle.std.proofs.Common.{◌≡◌, ◌≤◌}
pub use Rattle.std.proofs.lemmas.List.{flat_map_more, map-append, take_more}
pub use Rattle.std.proofs.lemmas.Result.{on_ok_weaker}
pub use Rattle.std.specs.List.{IsDistinct, cons_option, range_with_len}
pub use Rattle.std.specs.Option.{IsSomeAnd, option_and_then, option_copied, option_map_or}
pub use Rattle.std.specs.Prelude.{codes, filter, flat_map, slice_get, zip}
