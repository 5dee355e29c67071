use Rattle.std.proofs.Common.{◌≡◌, ap, arith}
use Rattle.cdm_day.proofs.BatchLemmas.{take-accepted, length-accepted}
use Rattle.cdm_board.{specs.History.Call, specs.History.Posts, specs.Receipts.call_of, proofs.Boards.grows}
use Rattle.cdm_board.proofs.state.BoardState.post_twice.Goals as goal

pub invariant_of-self-2 : goal.invariant_of-self-2
invariant_of-self-2 c =
    let s = c.self.inside.day in
    let vs = c.args.batch.now in
    let rs = c.in_ok-replies.replies.items in
    let e : call_of c.in_ok-kept.kept ≡ Posts vs rs = rw c.as_slice.ensures.value at c.in_ok-kept.ensures in
    let next = rw c.in_ok-day.ensures at c.in_ok-replies.ensures.ok in
    let answered = rw c.in_ok-day.ensures at c.in_ok-replies.ensures.replies in
    let l = length-accepted s.airport s.journal vs in
    (grows s c.apply.new.self c.self.inside.opened c.args.self.now c.self.inside.entries.items c.push.new.self.items _ c.args.desk (Posts vs rs)
    c.self.invariant.0 c.self.invariant.1 c.self.view_is next answered (omega (arith, c.self.invariant.0)) (take-accepted s.airport s.journal vs c.self.inside.opened c.self.invariant.0)
    c.in_ok-push.ensures.items (ap (λ (x : Call). (c.args.desk, x)) e) c.requires.desk c.requires.room).0

pub returns-clause-state : goal.returns-clause-state
returns-clause-state c =
    let s = c.self.inside.day in
    let vs = c.args.batch.now in
    let rs = c.in_ok-replies.replies.items in
    let e : call_of c.in_ok-kept.kept ≡ Posts vs rs = rw c.as_slice.ensures.value at c.in_ok-kept.ensures in
    let next = rw c.in_ok-day.ensures at c.in_ok-replies.ensures.ok in
    let answered = rw c.in_ok-day.ensures at c.in_ok-replies.ensures.replies in
    let l = length-accepted s.airport s.journal vs in
    (grows s c.apply.new.self c.self.inside.opened c.args.self.now c.self.inside.entries.items c.push.new.self.items _ c.args.desk (Posts vs rs)
    c.self.invariant.0 c.self.invariant.1 c.self.view_is next answered (omega (arith, c.self.invariant.0)) (take-accepted s.airport s.journal vs c.self.inside.opened c.self.invariant.0)
    c.in_ok-push.ensures.items (ap (λ (x : Call). (c.args.desk, x)) e) c.requires.desk c.requires.room).1
