use Rattle.std.proofs.Common.{◌≡◌, refl, ap, ◌∙◌}
use Rattle.cdm_plan.specs.Day.{DayRecord}
use Rattle.cdm_board.{specs.History.Call, specs.History.Looks, specs.Receipts.call_of, proofs.Boards.grows}
use Rattle.cdm_board.proofs.state.BoardState.look_twice.Goals as goal

pub invariant_of-self-2 : goal.invariant_of-self-2
invariant_of-self-2 c =
    let s = c.self.inside.day in
    let e : call_of c.in_ok-kept.kept ≡ Looks s.airport s.journal = c.in_ok-kept.ensures ∙ ap (λ (d : DayRecord). Looks d.airport d.journal) c.in_ok-state.ensures in
    (grows s s c.self.inside.opened c.args.self.now _ _ _ c.args.desk (Looks s.airport s.journal)
    c.self.invariant.0 c.self.invariant.1 c.self.view_is refl
    (refl, refl) c.self.invariant.0 refl c.in_ok-push.ensures.items (ap (λ (x : Call). (c.args.desk, x)) e) c.requires.desk c.requires.room).0
