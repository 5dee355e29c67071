use Rattle.std.proofs.{Common.{◌+◌, sym, ◌∙◌, arith, ap, ◌++◌, ◌∷◌, []}, lemmas.List.FromFn.map-range_with_len_more}
use Rattle.cdm_board.specs.History.{fresh_desk, fresh_desks, DeskRecord}
use Rattle.cdm_board.proofs.board.numbered.Goals as goal

pub loop-before-preserved : goal.loop-before-preserved
loop-before-preserved c =
    c.in_ok-push.ensures.items ∙ (ap (λ all. all ++ c.new.result ∷ []) c.loop-before.invariant
    ∙ (ap (λ (k : DeskRecord). fresh_desks c.loop-before.before ++ k ∷ []) c.new.ensures
    ∙ sym (map-range_with_len_more fresh_desk 1 c.loop-before.before (c.loop-before.before + 1) (omega arith))))
