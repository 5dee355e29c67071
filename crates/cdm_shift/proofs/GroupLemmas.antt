-- The groups of Rows are in their order, each once, and exactly those that a Row has.
use Rattle.std.proofs.{Common.{◌≡◌, ◌∙◌, Bool, true, false, List, [], Option, None, Some, arith, ap, inl, inr, map, refl, sym, true≢false}, lemmas.Bool.false≢true}
use Rattle.std.proofs.lemmas.Cmp.{nat_list_cmp_total}
use Rattle.std.specs.{Ordering.ordering_reverse, Prelude.{ℕ, Contains}, declared.cmp.Ordering.Ordering}
use Rattle.std.specs.declared.cmp.Ordering.TheVariants.{Less, Equal, Greater}
use Rattle.cdm_flight.specs.Names.{name_cmp}
use Rattle.cdm_sequence.proofs.OrderLemmas.{is_same, same_is, tied_names}
use Rattle.cdm_row.specs.declared.row.Row.{Row}
use Rattle.cdm_shift.specs.Costs.{AreGroups, group_before, group_of, groups_of, is_less, same_group, with_group}
use Rattle.cdm_shift.specs.declared.question.GroupBy.{GroupBy}
use Rattle.cdm_shift.proofs.Rising.{all_more, one_rising, pairs_rise, rises}

less : (o : Ordering) → is_less o ≡ true → o ≡ Less
less Less h = refl
less Equal h = absurd (false≢true h)
less Greater h = absurd (false≢true h)

-- Groups are ordered.

one_way : (g h : Option (List ℕ)) → group_before g h ≡ true → group_before h g ≡ false
one_way None None e = absurd (false≢true e)
one_way None (Some h) e = refl
one_way (Some g) None e = absurd (false≢true e)
one_way (Some g) (Some h) e = ap is_less (nat_list_cmp_total.antisymm h g ∙ ap ordering_reverse (less (name_cmp g h) e))

through : (f g h : Option (List ℕ)) → group_before f g ≡ true → group_before g h ≡ true → group_before f h ≡ true
through None None h e k = absurd (false≢true e)
through (Some f) None h e k = absurd (false≢true e)
through None (Some g) None e k = absurd (false≢true k)
through None (Some g) (Some h) e k = refl
through (Some f) (Some g) None e k = absurd (false≢true k)
through (Some f) (Some g) (Some h) e k = ap is_less (nat_list_cmp_total.trans f g h (less (name_cmp f g) e) (less (name_cmp g h) k))

tied : (g h : List ℕ) (o : Ordering) → name_cmp g h ≡ o → is_less o ≡ false → is_less (name_cmp h g) ≡ false → g ≡ h
tied g h Less e up down = absurd (true≢false up)
tied g h Equal e up down = tied_names g h e
tied g h Greater e up down = absurd (true≢false (sym (ap is_less (nat_list_cmp_total.antisymm h g ∙ ap ordering_reverse e)) ∙ down))

alike : (g h : Option (List ℕ)) → group_before g h ≡ false → group_before h g ≡ false → g ≡ h
alike None None up down = refl
alike None (Some h) up down = absurd (true≢false up)
alike (Some g) None up down = absurd (true≢false down)
alike (Some g) (Some h) up down = ap Some (tied g h (name_cmp g h) refl up down)

is_group : (g h : Option (List ℕ)) → same_group g h ≡ true → g ≡ h
is_group None None e = refl
is_group None (Some h) e = absurd (false≢true e)
is_group (Some g) None e = absurd (false≢true e)
is_group (Some g) (Some h) e = ap Some (same_is g h e)

itself : (g : Option (List ℕ)) → same_group g g ≡ true
itself None = refl
itself (Some g) = is_same g g refl

pub groups_are : (by : GroupBy) (rows : List Row) → AreGroups by rows (groups_of by rows)
unfolding with_group
groups_are by rows =
    let all = all_more group_before one_way through alike same_group is_group itself [] (map (group_of by) rows) tt in
    record {
      in_order = pairs_rise group_before (groups_of by rows) all.0;
      those = λ g. (λ i. elim ((all.1 g).0 i) [ inl j ↦ absurd (omega (arith, j.1)) | inr k ↦ k ], λ i. (all.1 g).1 (inr i));
    }

-- no other list of groups is so
pub groups_one : (by : GroupBy) (rows : List Row) (xs ys : List (Option (List ℕ))) → AreGroups by rows xs → AreGroups by rows ys → xs ≡ ys
groups_one by rows xs ys a b =
    one_rising group_before one_way through alike xs ys (rises group_before xs a.in_order) (rises group_before ys b.in_order)
    (λ g i. (b.those g).1 ((a.those g).0 i)) (λ g i. (a.those g).1 ((b.those g).0 i))
