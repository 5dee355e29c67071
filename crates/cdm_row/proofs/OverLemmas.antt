-- Who puts the changed Rows over those that he had has all Rows.
use Rattle.std.proofs.Common.{◌≡◌, ◌∙◌, ℕ, Bool, true, false, List, ◌++◌, Option, None, Some, refl, sym, ap, subst, not, arith}
use Rattle.std.proofs.lemmas.{Bool.false≢true, List.Elements.All-contains, List.Elements.Contains-append_left}
use Rattle.std.proofs.lemmas.{List.Elements.filter_map-append, List.Elements.filter_passes, List.Sorted.Contains-permutation}
use Rattle.std.proofs.lemmas.{List.Sorted.IsPermutation-sym, Grind.common_steps}
use Rattle.std.specs.{Prelude.Contains, List.IsDistinct, List.find, Option.option_or}
use Rattle.cdm_flight.proofs.Lists.{contains_all, contains_from_map, contains_kept, contains_map, distinct_filter, distinct_left}
use Rattle.cdm_flight.{proofs.Lists.{list_any-find, one_of_key}, specs.{Names.same_name, declared.update.Update.Update}}
use Rattle.cdm_plan.proofs.{ListWords.IsDistinct-IsPermutation, ListWords.is_some, PlanWords.is_same, PlanWords.same_flips}
use Rattle.cdm_plan.proofs.{PlanWords.same_is, NameLemmas.{find_none, find_only, find_some}}
use Rattle.cdm_plan.specs.{Day.DayRecord, Day.flights_in, Sound.IsSound}
use Rattle.cdm_sequence.specs.declared.plan.Plan.{Plan}
use Rattle.cdm_row.specs.{Rows.AreRows, declared.row.Row.Row, Changed.{Suffice, changed_rows, has_row, row_named, row_put_over}}
use Rattle.cdm_row.proofs.{EqualRows.rows_decide, RowLemmas.flights, RowLemmas.one_row}

-- it finds nothing where none passes
nothing_found : {X : Type 0} (p : X → Bool) (xs : List X) → ((x : X) → Contains xs x → p x ≡ true → ⊥) → find p xs ≡ None
nothing_found {X} p xs none = by (find p xs) refl
  where
    by : (o : Option X) → find p xs ≡ o → o ≡ None
    by None e = refl
    by (Some x) e = let there = find_some p xs x e in absurd (none x there.0 there.1)

module _ (rows : List Row) (own : IsDistinct same_name (flights rows)) (name : List ℕ) where
  -- two Rows of one flight are one
  one_named : (a b : Row) → Contains rows a → Contains rows b → same_name a.flight name ≡ true → same_name b.flight name ≡ true → a ≡ b
  one_named a b i j h k =
      one_of_key same_name same_flips (λ (r : Row). r.flight) rows a b own i j
      (is_same a.flight b.flight (same_is a.flight name h ∙ sym (same_is b.flight name k)))

  -- a Row is found by the name of its flight
  found : (r : Row) → Contains rows r → same_name r.flight name ≡ true → row_named rows name ≡ Some r
  found r i h = find_only (λ row. same_name row.flight name) rows r i h (λ y j k. one_named y r j i k h)

-- one of the Rows that has another is that one
had_itself : (had : List Row) (r : Row) → has_row had r ≡ true → Contains had r
had_itself had r h = grind (arith, common_steps, false≢true, list_any-find, is_some, find_some, rows_decide)

module _ (had after : List Row) (own : IsDistinct same_name (flights had)) (own_after : IsDistinct same_name (flights after))
    (stays : (name : List ℕ) → Contains (flights had) name → Contains (flights after) name) where
  abbrev new : Row → Bool
  new row = not (has_row had row)

  abbrev changed : List Row
  changed = changed_rows had after

  is_new : (r : Row) → Contains changed r → new r ≡ true
  is_new r i = All-contains (λ x. new x ≡ true) changed r (filter_passes new after) i

  module _ (name : List ℕ) where
    -- a flight that has a Row after
    with_row : (r : Row) → Contains after r → same_name r.flight name ≡ true → (b : Bool) → has_row had r ≡ b → row_put_over had changed name ≡ Some r
    with_row r i h false e = grind (arith, common_steps, found, changed, distinct_filter, new, contains_kept)
    with_row r i h true e =
        let none = nothing_found (λ (row : Row). same_name row.flight name) changed (λ x j k.
        let same : x ≡ r = one_named after own_after name x r (contains_all new after x j) i k h in
        false≢true (sym (ap new same ∙ ap not e) ∙ is_new x j)) in
        λ t. option_or (none t) (found had own name r (had_itself had r e) h t)

    -- and one that has none
    without_row : row_named after name ≡ None → row_put_over had changed name ≡ None
    without_row e =
        let passes : Row → Bool = λ row. same_name row.flight name in
        let no : (x : Row) → Contains after x → passes x ≡ true → ⊥ = λ x i k. false≢true (sym (find_none passes after e x i) ∙ k) in
        let here = nothing_found passes changed (λ x i k. no x (contains_all new after x i) k) in
        let there = nothing_found passes had (λ x i k.
        let back = contains_from_map (λ (r : Row). r.flight) after x.flight (stays x.flight (contains_map (λ (r : Row). r.flight) had x i)) in
        no back.0 back.1 (ap (λ n. same_name n name) back.2 ∙ k)) in
        λ t. option_or (here t) (there t)

    put_over : (o : Option Row) → row_named after name ≡ o → row_put_over had changed name ≡ o
    put_over None e = without_row e
    put_over (Some r) e = let there = find_some (λ row. same_name row.flight name) after r e in with_row r there.0 there.1 (has_row had r) refl

  suffice : Suffice had changed after
  suffice name = put_over name (row_named after name) refl

pub changed_suffice : (d next : DayRecord) (plan next_plan : Plan) (more : List Update) (had after : List Row) → IsSound next
    → next.journal ≡ d.journal ++ more → AreRows d plan had → AreRows next next_plan after → Suffice had (changed_rows had after) after
changed_suffice d next plan next_plan more had after sound longer before then =
    let had_one = one_row d plan had before in
    let after_one = one_row next next_plan after then in
    let known = ap flights_in longer ∙ filter_map-append _ d.journal more in
    let apart = distinct_left same_name (flights_in d.journal) (flights_in more) (subst (IsDistinct same_name) known sound.names) in
    let own = IsDistinct-IsPermutation same_name same_flips _ _ had_one apart in
    let own_after = IsDistinct-IsPermutation same_name same_flips _ _ after_one sound.names in
    suffice had after own own_after (λ name i.
    let was = Contains-permutation (flights had) (flights_in d.journal) name (IsPermutation-sym (flights_in d.journal) (flights had) had_one) i in
    let is = subst (λ (names : List (List ℕ)). Contains names name) (sym known) (Contains-append_left (flights_in d.journal) (flights_in more) name was) in
    Contains-permutation (flights_in next.journal) (flights after) name after_one is)
