use Rattle.cdm_table.proofs.Words.{◌≡◌, ◌∙◌, ◌++◌, ◌+◌, ◌∷◌, [], None, Ok, Err, length, refl, rules, sym, ap, slice_get_read}
use Rattle.std.specs.Prelude.{vec_len}
use Rattle.std.specs.Option.{option_map_or}
use Rattle.cdm_table.{proofs.StepLemmas.{late_at, one_more_moved}, specs.Moved.{first_of, moved, with_moved}}
use Rattle.cdm_table.proofs.moved.moved_updates.Goals as goal

pub returns-in-None : goal.returns-in-None
returns-in-None c =
    let us = c.args.updates.now in
    let at = c.args.at in
    let first = first_of us in
    let done = c.loop-update.done.items in
    let k = c.loop-update.update-index in
    let u = c.update-item.result in
    let here = slice_get_read us (length us) k u refl c.loop-update-test.true c.update-item.is in
    let none : moved first at u ≡ None = ap (λ n. moved n at u) (sym c.first_of-first.ensures) ∙ (sym c.moved.ensures ∙ c.in-None.is) in
    let late = one_more_moved first at us k u here ∙ ap (λ r. with_moved first at r u) c.loop-update.invariant
    ∙ ap (λ o. option_map_or (λ own. Ok (done ++ own ∷ [])) o (Err (length done + 1))) none in
    let count : vec_len c.loop-update.done ≡ length done = search rules in
    ap (λ n. Err (n + 1)) (c.len.ensures ∙ count) ∙ sym (late_at first at us (k + 1) (length done + 1) late)
