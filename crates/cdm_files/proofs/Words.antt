-- Words that the proofs share.
pub use Rattle.cdm_day.specs.Airport.{with_runway, with_space, with_taxi, word_of}
pub use Rattle.cdm_flight.specs.Accepted.{after_one, has_runway, refusal}
unfoldable pub use Rattle.cdm_flight.specs.Accepted.{accepted, replies_to}
pub use Rattle.cdm_flight.specs.Journal.{AirportRows}
pub use Rattle.cdm_flight.specs.declared.update.Update.{Update}
pub use Rattle.cdm_flight.specs.declared.word.RefusalWord.{RefusalWord}
pub use Rattle.cdm_flight.specs.declared.word.RefusalWord.TheVariants.{Order, Range, Text, Unknown}
pub use Rattle.cdm_plan.specs.Day.{DayRecord, flights_in}
pub use Rattle.cdm_time.specs.declared.calendar.CalendarDate.{CalendarDate}
pub use Rattle.csv.specs.Reading.{default_config}
unfoldable pub use Rattle.csv.specs.Reading.{records_from, strip_bom}
unfoldable pub use Rattle.csv.specs.Records.{field_at}
pub use Rattle.csv.specs.declared.parser.State.{State}
pub use Rattle.std.proofs.Common.{Bool, Err, IfOk, IsTrue, List, None, Ok, Option, Result, Some, [], ap, append-nil, append_assoc, arith, drop, false}
pub use Rattle.std.proofs.Common.{length, length-append, length-drop, map, not, refl, subst, suc, sym, take, take-add, true, vec_len, zero, ℕ, ◌++◌}
pub use Rattle.std.proofs.Common.{◌+◌, ◌-◌, ◌<◌, ◌==◌, ◌||◌, ◌∙◌, ◌∷◌, ◌≡◌, ◌≢◌, ◌≤◌}
pub use Rattle.std.proofs.KnownBytes.{Appends-trans, Consumes-trans}
pub use Rattle.std.proofs.lemmas.Grind.{common_steps}
pub use Rattle.std.proofs.lemmas.List.{length-map, nil_from_length}
pub use Rattle.std.proofs.lemmas.List.Elements.{All-from_recursion, All-head, All-tail, filter_map-append}
pub use Rattle.std.proofs.lemmas.Result.{err_from_is_err_and}
pub use Rattle.std.specs.Io.KnownBytes.{Appends, Consumes}
pub use Rattle.std.specs.List.{All, cons_option, filter_map, flat_map, list_all, list_any}
unfoldable pub use Rattle.std.specs.List.{IsDistinct}
pub use Rattle.std.specs.Option.{ok_or, option_map, option_to_list}
pub use Rattle.std.specs.Prelude.{codes, if◌then◌else◌, ⊤}
pub use Rattle.std.specs.Result.{result_err, result_map_both, result_ok}
