-- Words of std and of the crates below that the proofs share.
pub use Rattle.cdm_flight.specs.Names.{name_cmp, same_name}
pub use Rattle.cdm_flight.specs.declared.airport.RunwayRow.{RunwayRow}
pub use Rattle.cdm_flight.specs.declared.role.Role.{Role}
pub use Rattle.cdm_flight.specs.declared.word.RefusalWord.{RefusalWord}
pub use Rattle.cdm_plan.proofs.DayPlanLemmas.{record_name}
pub use Rattle.cdm_plan.proofs.FirstLemmas.{day_first, day_first_one}
pub use Rattle.cdm_plan.proofs.JournalFacts.{accepted_is, flight_named, flights_in-push, length-flights_in, names_after, new_flight-old}
pub use Rattle.cdm_plan.proofs.ListWords.{All, All-contains_itself, All-map, All-permutation, All-weaker, AllByRecursion, Contains}
pub use Rattle.cdm_plan.proofs.ListWords.{IsDistinct-push, answers_always, append-nil, append_assoc, cons_option, count_by, find, if◌then◌else◌}
pub use Rattle.cdm_plan.proofs.ListWords.{is_some, list_any, list_any-find, map-append, nat_le, nat_list_eq_equiv, nat_lt, nat_tests, option_and_then}
pub use Rattle.cdm_plan.proofs.ListWords.{option_copied, option_map, option_map_or, option_or, or_parts, or_right, recursion_from_All, slice_get, ◌↔◌}
unfoldable pub use Rattle.cdm_plan.proofs.ListWords.{IsDistinct}
pub use Rattle.cdm_plan.proofs.NameLemmas.{find_only, find_some, in_order, length-by_name, one_row, rows_by_name, rows_permutation, rules_by_name}
pub use Rattle.cdm_runway.proofs.CellLemmas.{cell_from, cell_to, cells_in_order}
pub use Rattle.cdm_taxi.proofs.TaxiLemmas.{get-insert_row}
pub use Rattle.indexmap.specs.IndexMap.{get, insert_entry, insert_index, keys, values}
pub use Rattle.std.proofs.Common.{Bool, Bor, Err, IfErr, IfOk, IfSome, IsTrue, List, None, Ok, OnOk, Option, Result, Some, [], ap, arith, drop, false}
pub use Rattle.std.proofs.Common.{get_or, inl, inr, length, length-append, ltb, map, not, refl, replicate, rules, set, subst, suc, sym, take, true}
pub use Rattle.std.proofs.Common.{true≢false, zero, ℕ, ◌%◌, ◌&&◌, ◌*◌, ◌++◌, ◌+◌, ◌/◌, ◌<◌, ◌==◌, ◌||◌, ◌∙◌, ◌∷◌, ◌≡◌, ◌≤◌, ◌⊎◌}
pub use Rattle.std.proofs.Math.Nat.{mul-div_cancel}
pub use Rattle.std.proofs.lemmas.Grind.{common_steps}
pub use Rattle.std.proofs.lemmas.List.{get_or-map, get_or_default, length-map, map-id, same_lists}
pub use Rattle.std.specs.Map.{keys_of, values_of}
