use Rattle.cdm_table.proofs.Words.{◌≡◌, ℕ, ◌<◌, true, List, length, get_or, Option, None, Some, Err, refl, sym, ◌∙◌, ap, inl, inr, arith}
use Rattle.cdm_table.proofs.Words.{rules, Less, Equal, Greater, HoldsAt, cases_lt, nat_list_cmp_total, tied_itself, searchable_from_sorted}
use Rattle.cdm_table.proofs.Words.{find_only, find_some, row_named, KeepsRows, Row}
use Rattle.std.specs.List.Sorted.{IsBinarySearchResult, IsPartitionPoint}
use Rattle.cdm_plan.proofs.ListWords.{Contains, one_of_key, answers_always}
use Rattle.cdm_plan.proofs.PlanWords.{is_same, name_cmp, same_flips, same_is, same_name, tied_names}
use Rattle.cdm_table.proofs.comparison_json.row_named.Goals as goal

-- a Row is found by the name of its flight
module _ (rows : List Row) (keeps : KeepsRows rows) where
  -- two Rows of one flight are one
  one_row : (name : List ℕ) (r s : Row) → Contains rows r → Contains rows s → same_name r.flight name ≡ true → same_name s.flight name ≡ true → r ≡ s
  one_row name r s i j h k =
      let same : r.flight ≡ s.flight = same_is r.flight name h ∙ sym (same_is s.flight name k) in
      one_of_key same_name same_flips (λ (row : Row). row.flight) rows r s keeps.apart i j (is_same r.flight s.flight same)

  -- the place of a flight has its Row
  row_at : (name : List ℕ) (place : ℕ) (r : Row) → place < length rows → get_or rows place r ≡ r
      → HoldsAt (λ (s : Row). name_cmp s.flight name ≡ Equal) rows place → row_named rows name ≡ Some r
  row_at name place r within at tied =
      let passes = is_same r.flight name (ap (λ (row : Row). row.flight) (sym at) ∙ tied_names (get_or rows place r).flight name (tied r)) in
      let here : Contains rows r = (place, within, at) in
      find_only (λ (s : Row). same_name s.flight name) rows r here passes (λ s i h. one_row name s r i here h passes)

  -- a flight that comes between two others has none
  no_row : (name : List ℕ) (place : ℕ) → IsBinarySearchResult (λ (s : Row). name_cmp s.flight name) rows (Err place) → row_named rows name ≡ None
  no_row name place searched = by (row_named rows name) refl
    where
      parted : IsPartitionPoint (λ (s : Row). name_cmp s.flight name ≡ Less) (λ (s : Row). name_cmp s.flight name ≡ Greater) rows place
      parted = searched (searchable_from_sorted nat_list_cmp_total (λ (row : Row). row.flight) rows name keeps.by_name)

      by : (o : Option Row) → row_named rows name ≡ o → o ≡ None
      by None e = refl
      by (Some r) e =
          let there = find_some (λ (s : Row). same_name s.flight name) rows r e in
          let at = there.0 in
          let named : (get_or rows at.0 r).flight ≡ name = ap (λ (row : Row). row.flight) at.2 ∙ same_is r.flight name there.1 in
          let ties : name_cmp (get_or rows at.0 r).flight name ≡ Equal =
          ap (λ n. name_cmp n name) named ∙ tied_itself nat_list_cmp_total name in
          elim (cases_lt at.0 place) [
            | inl before ↦ (let other = parted.0 at.0 r (omega arith) before in cc)
            | inr after ↦ (let other = parted.1 at.0 r after at.1 in cc)
          ]

pub returns-in-Ok : goal.returns-in-Ok
returns-in-Ok c =
    let tied = c.in-Ok.ensures.position (λ (row : Row). row.flight) (answers_always _ _ _ (λ f a r q k. search rules)) in
    let at = c.index-rows-place in
    sym (row_at c.args.rows.now c.requires c.args.name c.in-Ok.place at.result c.in-Ok.ensures.bound (sym at.is) tied)

pub returns-in-Err : goal.returns-in-Err
returns-in-Err c =
    let searched = c.in-Err.ensures.position (λ (row : Row). row.flight) (answers_always _ _ _ (λ f a r q k. search rules)) in
    sym (no_row c.args.rows.now c.requires c.args.name c.in-Err.field-0 searched)
