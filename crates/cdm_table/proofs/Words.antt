-- Words that the proofs share.
pub use Rattle.cdm_flight.specs.Names.{is_letter_or_digit}
pub use Rattle.cdm_flight.specs.declared.word.RefusalWord.{RefusalWord}
pub use Rattle.cdm_json.proofs.TokenLemmas.{line_written, more_parts, ok_then, one_member}
pub use Rattle.cdm_json.specs.Plans.{IsPlanLine, flights_text, plan_line}
pub use Rattle.cdm_plan.proofs.NameLemmas.{all_taken, find_only, find_some, take-next}
pub use Rattle.cdm_plan.specs.Day.{DayRecord, flights_in}
pub use Rattle.cdm_plan.specs.DayPlan.{IsDayPlan}
pub use Rattle.cdm_report.specs.Counts.{counts_of}
pub use Rattle.cdm_report.specs.declared.counts.Counts.{Counts}
pub use Rattle.cdm_row.specs.Changed.{row_named}
pub use Rattle.cdm_row.specs.Columns.{field, value_of}
unfoldable pub use Rattle.cdm_row.specs.Columns.{columns}
pub use Rattle.cdm_row.specs.Json.{count_json, member_tokens, row_json, row_members}
pub use Rattle.cdm_row.specs.Rows.{AreRows, KeepsRows}
pub use Rattle.cdm_row.specs.declared.row.Row.{Row}
pub use Rattle.cdm_scenario.specs.Outcome.{IsLaid}
pub use Rattle.cdm_scenario.specs.Overlay.{with_updates}
pub use Rattle.cdm_scenario.specs.Scenarios.{ScenarioRecord}
pub use Rattle.cdm_time.specs.declared.calendar.CalendarDate.{CalendarDate}
pub use Rattle.cdm_view.specs.Standings.{AreStandings, IsChangedTo, flight_name}
pub use Rattle.csv.specs.Writing.{default_writer, needs_byte, row_text}
unfoldable pub use Rattle.csv.specs.Writing.{fields_text, is_blank}
pub use Rattle.json.specs.Json.{Json, string}
pub use Rattle.json.specs.Print.{print}
unfoldable pub use Rattle.json.specs.Print.{print_from}
pub use Rattle.json.specs.Token.{begin_array}
pub use Rattle.json.specs.Tree.{json_tokens}
pub use Rattle.std.proofs.Common.{All, Bool, Err, List, None, Ok, Option, Some, [], ap, append-nil, append_assoc, arith, cond, false, get_or, inl}
pub use Rattle.std.proofs.Common.{inr, length, length-take-le, map, map-id, refl, rules, slice_index, subst, sym, take, true, ℕ, ◌&&◌, ◌++◌, ◌+◌, ◌-◌}
pub use Rattle.std.proofs.Common.{◌<◌, ◌==◌, ◌^◌, ◌||◌, ◌∙◌, ◌∷◌, ◌≡◌, ◌≤◌}
pub use Rattle.std.proofs.lemmas.Bool.{and_parts, cases_lt}
pub use Rattle.std.proofs.lemmas.Bool.Decides.{nat_tests}
pub use Rattle.std.proofs.lemmas.Cmp.{nat_cmp_total, nat_list_cmp_total, on_total, then_total, tied_itself}
pub use Rattle.std.proofs.lemmas.Grind.{common_steps, flat_map-append}
pub use Rattle.std.proofs.lemmas.List.{map-append, take-append-drop}
pub use Rattle.std.proofs.lemmas.List.Sorted.{answers_always, searchable_from_sorted}
pub use Rattle.std.proofs.lemmas.Option.{slice_get-get_or, slice_get_read}
pub use Rattle.std.specs.List.{AllZip, HoldsAt, IsDistinct, concat, cons_option, filter_map, join_with_byte, list_all, list_any}
pub use Rattle.std.specs.Prelude.{Contains, codes, flat_map, nat_le, slice_get}
pub use Rattle.std.specs.String.{string_bytes}
pub use Rattle.std.specs.declared.cmp.Ordering.TheVariants.{Equal, Greater, Less}
