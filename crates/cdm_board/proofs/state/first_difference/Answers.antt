use Rattle.std.proofs.Common.{[], ◌≡◌, ◌+◌, ◌++◌, ℕ, List, length, take, drop, map, ap, ◌∙◌, arith, true, false}
use Rattle.std.proofs.lemmas.List.{length-map, drop_all}
use Rattle.cdm_board.specs.{History.Call, History.calls_of, Receipts.call_of, Receipts.entry_of, declared.receipt.Entry.Entry}
use Rattle.cdm_board.proofs.{Desks.not_so, Places.place-next, Places.place-differs, Places.place-short, Places.calls-here}
use Rattle.cdm_board.proofs.{Places.calls-past, state.first_difference.Goals.{then-entry-desk+else-not-is_call_at, else-entry-desk}}
use Rattle.cdm_board.proofs.state.first_difference.Goals as goal

none-left : (d : ℕ) (es : List Entry) (i : ℕ) → length es ≡ i → calls_of d (map entry_of (drop i es)) ≡ []
none-left d es i end = ap (λ l. calls_of d (map entry_of l)) (drop_all i es (omega arith))

pub returns-then-not-is_call_at : goal.returns-then-not-is_call_at
returns-then-not-is_call_at c =
    let here = calls-here c.args.desk c.args.entries.now c.loop-entry.entry-index c.entry-item.result c.loop-entry-test.true c.entry-item.is c.if-entry-desk.true in
    let ys = map call_of c.args.receipts.now in
    place-differs _ ys _ c.loop-entry.next (call_of c.entry-item.result.receipt) (omega (arith, c.loop-entry.invariant.0, length-map c.args.receipts.now call_of))
    (c.loop-entry.invariant.1 ∙ ap (λ (z : List Call). take c.loop-entry.next ys ++ z) here)
    (not_so c.is_call_at.result c.if-not-is_call_at.true c.is_call_at.ensures.same.1)

pub loop-entry-preserved : goal.loop-entry-preserved
loop-entry-preserved c =
    let ys = map call_of c.args.receipts.now in
    let d = c.args.desk in
    let es = c.args.entries.now in
    let i = c.loop-entry.entry-index in
    let rest = calls_of d (map entry_of (drop (i + 1) es)) in
    elim c.if-entry-desk.branch [
      | then-entry-desk+else-not-is_call_at w ↦
          (let here = calls-here d es i c.entry-item.result c.loop-entry-test.true c.entry-item.is w.if-entry-desk.true in
          let at = w.is_call_at.ensures.same.0 w.if-not-is_call_at.false in
          let below = w.is_call_at.ensures.within w.if-not-is_call_at.false in
          rw w.next-is (omega arith, place-next _ ys rest c.loop-entry.next _ (c.loop-entry.invariant.1 ∙ ap (λ (z : List Call). take c.loop-entry.next ys ++ z) here) at))
      | else-entry-desk w ↦
          (let past = calls-past d es i c.entry-item.result c.loop-entry-test.true c.entry-item.is w.if-entry-desk.false in
          rw w.next-is (c.loop-entry.invariant.0, c.loop-entry.invariant.1 ∙ ap (λ (z : List Call). take c.loop-entry.next ys ++ z) past))
    ]

pub returns-then-next-receipts : goal.returns-then-next-receipts
returns-then-next-receipts c =
    let ys = map call_of c.args.receipts.now in
    place-short _ ys c.loop-entry.next (omega (arith, length-map c.args.receipts.now call_of))
    (c.loop-entry.invariant.1 ∙ ap (λ (z : List Call). take c.loop-entry.next ys ++ z) (none-left c.args.desk c.args.entries.now c.loop-entry.entry-index (omega arith)))
