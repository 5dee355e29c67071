use Rattle.std.proofs.Common.{◌≡◌, ℕ, ◌≤◌, ◌<◌, ◌/◌, ap, subst, ◌∙◌, arith}
use Rattle.cdm_runway.{specs.Load.Load, specs.Room.{cap_at, held_in_cell}, proofs.PassedLemmas.unfree_step}
use Rattle.cdm_runway.proofs.load.RunwayLoad.first_free.Goals as goal

pub loop-minute-preserved : goal.loop-minute-preserved
loop-minute-preserved c =
    let r = c.args.runway.now in
    let taken = c.args.self.now.taken in
    let minute = c.in-Some.minute in
    let inv = c.loop-minute.invariant in
    let first = c.in-Some.ensures in
    let past = c.past-number-in-Some.ensures in
    let cell : c.self.inside.cell ≡ r.cell = ap (λ (l : Load). l.cell) c.self.view_is ∙ c.requires.cell in
    let held : c.held.result ≡ held_in_cell r.cell taken minute = rw c.requires.cell at c.held.ensures in
    let full : cap_at r minute ≤ held_in_cell r.cell taken minute = omega (arith, c.if-held-get.false, held, c.cap_at.ensures, c.get.ensures.value) in
    let same : (k : ℕ) → minute ≤ k → k < c.next_cell.result → k / r.cell ≡ minute / r.cell =
    λ k from to. subst (λ (n : ℕ). k / n ≡ minute / n) cell (c.next_cell.ensures.same k from to) in
    record {
      begun = omega (arith, inv.begun, first.after, c.next_cell.ensures.after, past.after);
      none = unfree_step r taken c.args.group c.args.passed.unfree c.args.from c.loop-minute.number minute c.next_cell.result
          c.past-number-in-Some.result c.requires.passed.unfree inv.none first.least full same past.passed;
    }
