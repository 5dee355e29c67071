use Rattle.std.proofs.{Common.{◌≡◌, ℕ, ◌+◌, ◌≤◌, inl, Some, None, ap, sym, ◌∙◌, subst, arith}, lemmas.Grind.common_steps}
use Rattle.cdm_view.specs.{Reasons.Waiting, Reasons.reason_at, Runs.AreRuns, inner.Earlier.IsAhead}
use Rattle.cdm_view.proofs.{EarlierLemmas.ahead_next, EarlierLemmas.ahead_step, RunLemmas.runs_end, RunLemmas.runs_none}
use Rattle.cdm_view.proofs.{RunLemmas.runs_start, runs.runs_of.Goals.{in-Some+in_ok-add_minute, in_default}}
use Rattle.cdm_view.proofs.runs.runs_of.Goals as goal

-- the first minute, by what the code has of the flight
begins : (v w : Waiting) (tobt : ℕ) → tobt ≡ v.tobt → v ≡ w → tobt + v.exot ≡ w.tobt + w.exot
begins v w tobt same is = ap (λ t. t + v.exot) same ∙ ap (λ (x : Waiting). x.tobt + x.exot) is

pub loop-number-init : goal.loop-number-init
loop-number-init c = grind (arith, common_steps, runs_start, begins)

-- the slots ahead of a minute
pub reason_at-requires : goal.reason_at-requires
reason_at-requires c =
    let at : c.unwrap-minute.result ≡ c.loop-number.number = grind (arith, common_steps) in
    ahead_step c.args.waiting.now c.loop-number.number c.loop-number.ahead.now c.unwrap-minute.result c.not_passed-ahead.result.now at
    c.not_passed-ahead.ensures c.loop-number.invariant.ahead

pub loop-number-preserved : goal.loop-number-preserved
loop-number-preserved c =
    let w = c.args.waiting.now in
    let told = reason_at w in
    let from = w.tobt + w.exot in
    let m = c.loop-number.number in
    let at : c.unwrap-minute.result ≡ m = grind (arith, common_steps) in
    let begin : c.get.result + c.waiting.inside.exot ≡ from = begins _ w _ c.get.ensures.value c.waiting.view_is in
    let after : from ≤ c.unwrap-minute.result = omega (arith, begin, at) in
    let runs : AreRuns told from (m + 1) c.match-branch-2.runs.items = elim c.match-branch-2.branch [
      | in-Some+in_ok-add_minute v ↦
          let here : told c.unwrap-minute.result ≡ Some v.in-Some.reason = sym c.in_ok-reason.ensures ∙ v.in-Some.is in
          let before = subst (λ k. AreRuns told from k c.loop-number.runs.items) (sym at) c.loop-number.invariant.runs in
          let more = v.in_ok-add_minute.ensures told from before after here in
          subst (λ runs. AreRuns told from (m + 1) runs.items) (sym v.runs-is) (subst (λ k. AreRuns told from (k + 1) v.add_minute.new.runs.items) at more)
      | in_default v ↦
          let here : told m ≡ None = ap told (sym at) ∙ sym c.in_ok-reason.ensures ∙ v.in_default.is in
          subst (λ runs. AreRuns told from (m + 1) runs.items) (sym v.runs-is) (runs_none told from m _ c.loop-number.invariant.runs here)
    ] in
    let rest = c.not_passed-ahead.result.now in
    let here = ahead_step w m c.loop-number.ahead.now c.unwrap-minute.result rest at c.not_passed-ahead.ensures c.loop-number.invariant.ahead in
    let ahead = subst (λ k. IsAhead w (k + 1) rest) at (ahead_next w c.unwrap-minute.result rest here) in
    record { runs = runs; ahead = ahead; short = inl (omega arith) }

pub returns : goal.returns
returns c = grind (arith, common_steps, begins, runs_end)
