-- Words of std and of the crates below that the proofs share.
pub use Rattle.cdm_flight.proofs.Lists.{All-given, IsPermutation-filter, IsPermutation-filter_map, apart_from_head, contains_all, contains_cases}
pub use Rattle.cdm_flight.proofs.Lists.{contains_from_map, contains_head, contains_kept, contains_tail, distinct_right, filter_map_same, one_of_key}
pub use Rattle.cdm_flight.specs.Names.{name_cmp, same_name}
unfoldable pub use Rattle.cdm_flight.specs.Order.{is_before}
pub use Rattle.cdm_flight.specs.Order.{key_cmp}
pub use Rattle.cdm_flight.specs.declared.key.Key.{Key}
pub use Rattle.cdm_runway.specs.Load.{Load}
pub use Rattle.cdm_runway.specs.Passed.{ArePassed}
pub use Rattle.cdm_runway.specs.Room.{Gives, IsFree, IsSpaced, cap_at, held_in_cell, meets, taken_by}
pub use Rattle.cdm_runway.specs.Rules.{RunwayRules}
pub use Rattle.cdm_runway.specs.declared.load.Taken.{Taken}
pub use Rattle.std.proofs.Common.{Bool, Bor, List, None, Option, Some, [], ap, append_assoc, arith, cond, false, filter, get_or, inl, inr, is_none}
pub use Rattle.std.proofs.Common.{length, map, not, refl, rules, subst, sym, take, true, ℕ, ◌&&◌, ◌++◌, ◌+◌, ◌/◌, ◌<◌, ◌==◌, ◌∙◌, ◌∷◌, ◌≡◌, ◌≤◌, ◌⊎◌}
pub use Rattle.std.proofs.lemmas.Bool.{and_parts, false_from_ne_true, false≢true, not-true, true_from_ne_false}
pub use Rattle.std.proofs.lemmas.Bool.Decides.{Decides-and, Decides-eqb, Decides-like, nat_tests}
pub use Rattle.std.proofs.lemmas.Cmp.{nat_cmp_total, nat_list_cmp_total, nat_list_eq_equiv, on_total, then_total, tied_itself}
pub use Rattle.std.proofs.lemmas.Grind.{common_steps}
pub use Rattle.std.proofs.lemmas.List.{append-nil, get_or-map, length-map, map-append, map_more, take-map}
pub use Rattle.std.proofs.lemmas.List.Elements.{All-append, All-contains, All-from_get_or, All-weaker, Contains-get_or, filter_passes}
pub use Rattle.std.proofs.lemmas.List.Sorted.{All-permutation, Contains-permutation, IsPermutation-append, IsPermutation-append_right}
pub use Rattle.std.proofs.lemmas.List.Sorted.{IsPermutation-map, IsPermutation-sym, IsPermutation-trans, answers_always, length_permutation, ranks_by}
pub use Rattle.std.proofs.lemmas.Map.Keys.{IsDistinct-IsPermutation, apart_from_distinct}
pub use Rattle.std.specs.Bool.{Decides}
pub use Rattle.std.specs.Cmp.{IsStrictWeakOrder, IsTotalOrder}
pub use Rattle.std.specs.List.{AllPairs, Contains, IsDistinct, cons_option, filter_map}
pub use Rattle.std.specs.List.Sorted.{IsPermutation, IsSorted, IsSortedBy, IsSortedByKey}
pub use Rattle.std.specs.Option.{is_some, option_and_then, option_eq, option_map, option_map_or, option_to_list}
pub use Rattle.std.specs.Ordering.{is_eq, is_lt, nat_cmp, ordering_reverse, ordering_then}
pub use Rattle.std.specs.declared.cmp.Ordering.{Ordering}
pub use Rattle.std.specs.declared.cmp.Ordering.TheVariants.{Equal, Greater, Less}
