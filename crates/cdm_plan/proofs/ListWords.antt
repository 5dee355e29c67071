-- Words of lists, tests and choices that the proofs share.
pub use Rattle.cdm_flight.proofs.Lists.{All-given, contains_all, contains_cases, contains_from_map, contains_head, contains_kept, contains_map}
pub use Rattle.cdm_flight.proofs.Lists.{contains_tail, distinct_filter, distinct_right, filter_map-filter, filter_map-map, if_so, contains_from_given}
pub use Rattle.cdm_flight.proofs.Lists.{filter_map_same, filter_same, IsPermutation-filter, IsPermutation-filter_map, list_any-find, list_any-map}
pub use Rattle.cdm_flight.proofs.Lists.{list_any-same, one_of_key, sum_by-add}
pub use Rattle.std.proofs.Math.Bool.{or-false, or_comm}
pub use Rattle.std.proofs.lemmas.Bool.{false_from_ne_true, false≢true, not-false, or_parts, or_right}
pub use Rattle.std.proofs.lemmas.Bool.Decides.{nat_tests}
pub use Rattle.std.proofs.lemmas.Cmp.{nat_list_cmp_total, nat_list_eq_equiv}
pub use Rattle.std.proofs.lemmas.List.{append-nil, append_assoc, ext_get_or, length-map, map-append, take-append-le, take_all, take_more}
pub use Rattle.std.proofs.lemmas.List.Elements.{All-cons, All-contains, All-contains_itself, All-head, All-map, All-nil, All-tail, All-weaker}
pub use Rattle.std.proofs.lemmas.List.Elements.{filter-append, filter_map-append, filter_passes, recursion_from_All}
pub use Rattle.std.proofs.lemmas.List.Folds.{find-append, list_any-append, list_any_at, map_fixed}
pub use Rattle.std.proofs.lemmas.List.Sorted.{All-permutation, Contains-permutation, IsPermutation-append, IsPermutation-append_comm}
pub use Rattle.std.proofs.lemmas.List.Sorted.{IsPermutation-append_left, IsPermutation-append_right, IsPermutation-filter_both, IsPermutation-keeps}
pub use Rattle.std.proofs.lemmas.List.Sorted.{IsPermutation-map, IsPermutation-middle, IsPermutation-refl, IsPermutation-swap, IsPermutation-sym}
pub use Rattle.std.proofs.lemmas.List.Sorted.{IsPermutation-trans, answers_always, length_permutation, ranks_by, sum_by-IsPermutation}
pub use Rattle.std.proofs.lemmas.Map.Keys.{IsDistinct-IsPermutation, IsDistinct-head, IsDistinct-push, IsDistinct-tail}
pub use Rattle.std.specs.Arc.{arc_value}
pub use Rattle.std.specs.Cmp.Lexicographic.{same_text}
pub use Rattle.std.specs.List.{All, AllByRecursion, AllZip, Contains, cons_option, filter_map, find, flat_map, list_any, range_with_len, swap}
unfoldable pub use Rattle.std.specs.List.{IsDistinct}
pub use Rattle.std.specs.List.Sorted.{IsPermutation, IsSortedBy}
pub use Rattle.std.specs.Option.{option_and_then, option_copied, option_map, option_map_or, option_or}
pub use Rattle.std.specs.Ordering.{is_lt, nat_cmp}
pub use Rattle.std.specs.Prelude.{count_by, if◌then◌else◌, is_none, is_some, nat_le, nat_lt, not, slice_get, unwrap_or, zip, ◌%◌, ◌==◌, ◌↔◌}
