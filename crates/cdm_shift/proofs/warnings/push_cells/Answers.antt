use Rattle.std.proofs.{Common.{◌≡◌, ◌∙◌, ◌++◌, true, false, [], ◌∷◌, ap, cond, map, sym}, lemmas.List.append-nil}
use Rattle.cdm_shift.{specs.Warnings.{full_cell, is_full}, proofs.ListLemmas.passing_more}
use Rattle.cdm_shift.proofs.warnings.push_cells.Goals.{then-is_full+in_ok-push_last, else-is_full}
use Rattle.cdm_shift.proofs.warnings.push_cells.Goals as goal

pub loop-cell-preserved : goal.loop-cell-preserved
loop-cell-preserved c =
    let f = full_cell c.args.runway.now c.args.slots.now in
    let test = is_full c.args.runway.now c.args.slots.now c.args.now in
    let k = c.loop-cell.cell in
    let so = c.loop-cell.found.items in
    let more = passing_more f test c.args.found.now.items so c.if-is_full.found.items k c.loop-cell.invariant in
    elim c.if-is_full.branch [
      | then-is_full+in_ok-push_last w ↦
          let passes : test k ≡ true = sym c.is_full.ensures ∙ w.if-is_full.true in
          more ((λ i. (w.found-is i).items) ∙ w.in_ok-push_last.ensures ∙ ap (λ x. so ++ x ∷ []) w.full_cell.ensures ∙ (λ i. so ++ map f (cond (sym passes i) (k ∷ []) [])))
      | else-is_full w ↦
          let fails : test k ≡ false = sym c.is_full.ensures ∙ w.if-is_full.false in
          more ((λ i. (w.found-is i).items) ∙ sym (append-nil so) ∙ (λ i. so ++ map f (cond (sym fails i) (k ∷ []) [])))
    ]
