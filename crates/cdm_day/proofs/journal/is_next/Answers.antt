use Rattle.std.proofs.lemmas.Option.{slice_get_read}
use Rattle.std.proofs.Common.{◌≡◌, ℕ, ◌+◌, Bool, List, [], ◌∷◌, ◌++◌, Some, IsTrue, length, refl, sym, take, ◌∙◌}
use Rattle.cdm_flight.proofs.UpdateLemmas.{update_eq-Decides}
use Rattle.cdm_flight.specs.contracts.update.UpdatePartialEq.TheImpl as update_eq
use Rattle.cdm_flight.specs.declared.update.Update.{Update}
use Rattle.cdm_plan.proofs.{ListWords.{cons_option, slice_get}, NameLemmas.take-next}
use Rattle.cdm_day.proofs.journal.is_next.Goals as goal

-- a place of a list that has the update ends its beginning with it
with_next : (xs : List Update) (n : ℕ) (x u : Update) (is : Bool) → slice_get xs n ≡ Some x → is ≡ (update_eq.ghosts).eq x u → IsTrue is
    → take (n + 1) xs ≡ take n xs ++ u ∷ []
with_next xs n x u is at by true_is =
    take-next xs n ∙ ((λ i. take n xs ++ cons_option (at i) []) ∙ (λ i. take n xs ++ (update_eq-Decides x u).0 (sym by ∙ true_is) i ∷ []))

pub returns-in-Some-clause-next : goal.returns-in-Some-clause-next
returns-in-Some-clause-next c = λ true_is.
    let found = c.in-Some.ensures.lookup in
    let list = c.args.list.now in
    let at = slice_get_read list (length list) c.args.len c.in-Some.next.now refl found.3.0 found.1 in
    with_next list c.args.len c.in-Some.next.now c.args.update.now c.eq.result at c.eq.ensures true_is
