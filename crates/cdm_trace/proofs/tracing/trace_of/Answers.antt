use Rattle.std.proofs.Common.{◌≡◌, ◌≤◌, ◌-◌, ◌∙◌, ◌++◌, ℕ, Bool, true, false, List, [], ◌∷◌, ap, arith, if◌then◌else◌}
use Rattle.cdm_trace.proofs.TraceLemmas.{all_refused, all_told, tells_first, tells_next, whole_day}
use Rattle.cdm_trace.proofs.tracing.trace_of.Goals as goal

-- a reader that finds no record had none left
none-read : {X : Type 0} (found : Bool) (old new : List X) (row : X) → found ≡ false → old ≡ (if found then row ∷ new else []) → old ≡ []
none-read true old new row h left = cc h
none-read false old new row h left = left

-- and one that finds a record had it first
one-read : {X : Type 0} (found : Bool) (old new : List X) (row : X) → found ≡ true → old ≡ (if found then row ∷ new else []) → old ≡ row ∷ new
one-read true old new row h left = left
one-read false old new row h left = cc h

pub records-init : goal.records-init
records-init c =
    tells_first c.args.from c.args.format c.args.flight c.args.airport c.args.feed.now _ _ _ (c.new-day.ensures ∙ (c.new.ensures ∙ c.in_ok-state.ensures))
    c.new-reader.ensures.left c.new-reader.ensures.count c.new-text.ensures.items

pub overflow_sub-refused : goal.overflow_sub-refused
overflow_sub-refused c =
    omega (
      arith,
      all_refused c.args.from c.args.format c.args.flight c.args.airport c.args.feed.now _ _ _ _ _ _ _ c.records.invariant
          (none-read _ _ _ _ c.if-not-branch.true c.in_ok-read.ensures.left) c.in_ok-desk.ensures c.state.ensures c.accepted.ensures.value,
    )

pub returns-then-not-branch-clause-told : goal.returns-then-not-branch-clause-told
returns-then-not-branch-clause-told c =
    all_told c.args.from c.args.format c.args.flight c.args.airport c.args.feed.now _ _ _ _ c.records.invariant
    (none-read _ _ _ _ c.if-not-branch.true c.in_ok-read.ensures.left)

pub returns-then-not-branch-clause-day : goal.returns-then-not-branch-clause-day
returns-then-not-branch-clause-day c =
    c.in_ok-desk.ensures ∙ whole_day c.args.from c.args.format c.args.flight c.args.airport c.args.feed.now _ _ _ _ c.records.invariant
    (none-read _ _ _ _ c.if-not-branch.true c.in_ok-read.ensures.left)

pub returns-then-not-branch-clause-refused : goal.returns-then-not-branch-clause-refused
returns-then-not-branch-clause-refused c =
    omega (
      arith,
      all_refused c.args.from c.args.format c.args.flight c.args.airport c.args.feed.now _ _ _ _ _ _ _ c.records.invariant
          (none-read _ _ _ _ c.if-not-branch.true c.in_ok-read.ensures.left) c.in_ok-desk.ensures c.state.ensures c.accepted.ensures.value,
    )

pub records-preserved : goal.records-preserved
records-preserved c =
    let before = c.records.text.items in
    let longer = c.in_ok-extend_from_slice.ensures.items ∙ ap (λ (x : List ℕ). before ++ x) c.deref.ensures.value in
    tells_next c.args.from c.args.format c.args.flight c.args.airport c.args.feed.now _ _ _ _ _ _ _ c.in_ok-next.piece.items _ c.records.invariant
    (one-read _ _ _ _ c.if-not-branch.false c.in_ok-read.ensures.left) c.in_ok-next.ensures.piece c.in_ok-next.ensures.day longer
