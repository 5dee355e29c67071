use Rattle.std.proofs.Common.{◌≡◌, ℕ, ◌<◌, true, List, length, get_or, Option, None, Some, Err, refl, sym, ◌∙◌, ap, inl, inr, arith, rules}
use Rattle.std.proofs.lemmas.{Bool.cases_lt, Cmp.nat_list_cmp_total, Cmp.tied_itself, List.Sorted.searchable_from_sorted}
use Rattle.std.specs.declared.cmp.Ordering.TheVariants.{Less, Equal, Greater}
use Rattle.std.specs.List.{HoldsAt, Sorted.IsBinarySearchResult, Sorted.IsPartitionPoint}
use Rattle.cdm_plan.proofs.ListWords.{Contains, find, one_of_key, answers_always}
use Rattle.cdm_plan.proofs.{PlanWords.{is_same, name_cmp, same_flips, same_is, same_name, tied_names}, NameLemmas.{find_only, find_some}}
use Rattle.cdm_view.specs.{declared.standing.Standing.Standing, Standings.KeepsFlights, Standings.flight_name}
use Rattle.cdm_view.proofs.standings.standing_of.Goals as goal

-- a standing is found by the name of its flight
module _ (standings : List Standing) (keeps : KeepsFlights standings) where
  -- two standings of one flight are one
  one_standing : (name : List ℕ) (s t : Standing) → Contains standings s → Contains standings t → same_name (flight_name s) name ≡ true
      → same_name (flight_name t) name ≡ true → s ≡ t
  one_standing name s t i j h k =
      let same : flight_name s ≡ flight_name t = same_is (flight_name s) name h ∙ sym (same_is (flight_name t) name k) in
      one_of_key same_name same_flips flight_name standings s t keeps.apart i j (is_same (flight_name s) (flight_name t) same)

  -- the place of a flight has its standing
  standing_at : (name : List ℕ) (place : ℕ) (s : Standing) → place < length standings → get_or standings place s ≡ s
      → HoldsAt (λ t. name_cmp (flight_name t) name ≡ Equal) standings place → find (λ t. same_name (flight_name t) name) standings ≡ Some s
  standing_at name place s within at tied =
      let passes = is_same (flight_name s) name (ap flight_name (sym at) ∙ tied_names (flight_name (get_or standings place s)) name (tied s)) in
      let here : Contains standings s = (place, within, at) in
      find_only (λ t. same_name (flight_name t) name) standings s here passes (λ t i h. one_standing name t s i here h passes)

  -- a flight that comes between two others has none
  no_standing : (name : List ℕ) (place : ℕ)
      → IsBinarySearchResult (λ t. name_cmp (flight_name t) name) standings (Err place)
      → find (λ t. same_name (flight_name t) name) standings ≡ None
  no_standing name place searched = by (find (λ t. same_name (flight_name t) name) standings) refl
    where
      parted : IsPartitionPoint (λ t. name_cmp (flight_name t) name ≡ Less) (λ t. name_cmp (flight_name t) name ≡ Greater) standings place
      parted = searched (searchable_from_sorted nat_list_cmp_total flight_name standings name keeps.by_name)

      by : (o : Option Standing) → find (λ t. same_name (flight_name t) name) standings ≡ o → o ≡ None
      by None e = refl
      by (Some s) e =
          let there = find_some (λ t. same_name (flight_name t) name) standings s e in
          let at = there.0 in
          let named : flight_name (get_or standings at.0 s) ≡ name = ap flight_name at.2 ∙ same_is (flight_name s) name there.1 in
          let ties : name_cmp (flight_name (get_or standings at.0 s)) name ≡ Equal =
          ap (λ n. name_cmp n name) named ∙ tied_itself nat_list_cmp_total name in
          elim (cases_lt at.0 place) [
            | inl before ↦ (let other = parted.0 at.0 s (omega arith) before in cc)
            | inr after ↦ (let other = parted.1 at.0 s after at.1 in cc)
          ]

pub returns-in-Ok : goal.returns-in-Ok
returns-in-Ok c =
    let tied = c.in-Ok.ensures.position flight_name (answers_always _ _ _ (λ f a r q k. search rules)) in
    let at = c.index-standings-place in
    sym (standing_at c.args.standings.now c.requires c.args.name c.in-Ok.place at.result c.in-Ok.ensures.bound (sym at.is) tied)

pub returns-in-Err : goal.returns-in-Err
returns-in-Err c =
    let searched = c.in-Err.ensures.position flight_name (answers_always _ _ _ (λ f a r q k. search rules)) in
    sym (no_standing c.args.standings.now c.requires c.args.name c.in-Err.field-0 searched)
