use Rattle.cdm_runway.proofs.{Words.{◌≡◌, sym, arith, append-nil}, IntervalLemmas.{pushed, joined}}
use Rattle.cdm_runway.proofs.intervals.push_joined.Goals.{in-Some+else-last-next+in_ok-push-2, in_default}
use Rattle.cdm_runway.proofs.intervals.push_joined.Goals as goal

pub returns-then-eq : goal.returns-then-eq
returns-then-eq g c =
    rw (c.in-Some.ensures.items, c.in_ok-push.ensures.items)
    (joined c.pop.new.self.items c.in-Some.last c.args.next (rw c.in-Some.ensures.items at c.requires.order) (omega arith) c.if-last-next.true
    (c.requires.same c.in-Some.last.value c.args.next.value (sym c.if-eq.ensures)))

pub returns : goal.returns
returns g c =
    let same : c.match-pop.listed.items ≡ c.args.listed.now.items =
    elim c.match-pop.branch [
      | in-Some+else-last-next+in_ok-push-2 w ↦ cc (w.in-Some.ensures.items, w.in_ok-push-2.ensures.items)
      | in_default w ↦ cc (append-nil c.pop.new.self.items)
    ] in
    rw (c.in_ok-push-3.ensures.items, same) (pushed c.args.listed.now.items c.args.next c.requires.order c.requires.after (omega arith))
