-- Minutes and updates, one after another.
use Rattle.cdm_table.proofs.Words.{◌≡◌, ◌∙◌, ◌++◌, ◌+◌, ◌-◌, ◌≤◌, ℕ, List, [], ◌∷◌, Some, Ok, Err, length, take, refl, sym, ap, arith}
use Rattle.cdm_table.proofs.Words.{cons_option, flat_map, flat_map-append, slice_get, take-next, append-nil}
use Rattle.std.proofs.{Common.{Result, drop}, lemmas.List.take-append-drop}
use Rattle.std.proofs.lemmas.List.Sums.{fold-append}
use Rattle.std.specs.List.{fold, range_with_len}
use Rattle.cdm_view.proofs.RangeLemmas.{range-append}
use Rattle.cdm_flight.specs.declared.update.Update.{Update}
use Rattle.cdm_table.specs.Moved.{with_moved}

-- what numbers give, with one more number
pub number_more : {A : Type 0} (given : ℕ → List A) (before after : List A) (from number : ℕ) → from ≤ number
    → before ≡ flat_map given (range_with_len from (number - from)) → after ≡ before ++ given number
    → after ≡ flat_map given (range_with_len from (number + 1 - from))
number_more given before after from number order so_far next =
    let longer : number + 1 - from ≡ number - from + 1 = omega arith in
    let behind : from + (number - from) ≡ number = omega arith in
    let parts = ap (range_with_len from) longer ∙ (range-append from (number - from) 1 ∙ ap (λ n. range_with_len from (number - from) ++ n ∷ []) behind) in
    next ∙ ap (λ l. l ++ given number) so_far ∙ sym (ap (flat_map given) parts ∙ flat_map-append given (range_with_len from (number - from)) (number ∷ [])
    ∙ ap (λ l. flat_map given (range_with_len from (number - from)) ++ l) (append-nil (given number)))

module _ (first at : ℕ) where
  -- the updates so far, with one more
  pub one_more_moved : (us : List Update) (k : ℕ) (u : Update) → slice_get us k ≡ Some u
      → fold (with_moved first at) (Ok []) (take (k + 1) us) ≡ with_moved first at (fold (with_moved first at) (Ok []) (take k us)) u
  one_more_moved us k u here =
      ap (fold (with_moved first at) (Ok [])) (take-next us k ∙ ap (λ o. take k us ++ cons_option o []) here)
      ∙ fold-append (with_moved first at) (Ok []) (take k us) (u ∷ [])

  -- the first that can't be moved is the answer
  late : (number : ℕ) (us : List Update) → fold (with_moved first at) (Err number) us ≡ Err number
  late number [] = refl
  late number (u ∷ us) = late number us

  pub late_at : (us : List Update) (k number : ℕ) → fold (with_moved first at) (Ok []) (take k us) ≡ Err number
      → fold (with_moved first at) (Ok []) us ≡ Err number
  late_at us k number so_far =
      ap (fold (with_moved first at) (Ok [])) (sym (take-append-drop k us))
      ∙ fold-append (with_moved first at) (Ok []) (take k us) (drop k us)
      ∙ ap (λ (r : Result (List Update) ℕ). fold (with_moved first at) r (drop k us)) so_far
      ∙ late number (drop k us)
