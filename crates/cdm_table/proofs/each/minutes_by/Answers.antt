use Rattle.cdm_table.proofs.Words.{◌≡◌, ◌∙◌, ◌++◌, ◌+◌, ◌-◌, ◌≤◌, ap, arith, flat_map}
use Rattle.std.specs.List.{range_with_len}
use Rattle.cdm_table.{proofs.StepLemmas.number_more, specs.Steps.step_at}
use Rattle.cdm_table.proofs.each.minutes_by.Goals as goal

pub loop-minute-preserved : goal.loop-minute-preserved
loop-minute-preserved c =
    number_more (step_at c.args.step c.args.from) c.loop-minute.minutes.items _ c.args.from c.loop-minute.minute
    (omega (arith, c.get-first.ensures.value, c.loop-minute.auto.minute)) c.loop-minute.invariant
    (c.in_ok-push_step.ensures ∙ ap (λ m. c.loop-minute.minutes.items ++ step_at c.args.step c.args.from m) c.at.ensures)

pub returns : goal.returns
returns c =
    let from = c.args.from in
    let order : c.get-first.result ≤ c.max-end.result = omega (arith, c.max-end.ensures) in
    let end : c.loop-minute.minute ≡ c.max-end.result = omega (arith, c.loop-minute.auto.minute-end order, c.loop-minute-test.false) in
    let count : c.loop-minute.minute - from ≡ c.args.to + 1 - from =
    omega (arith, end, c.max-end.ensures, c.get-first.ensures.value, c.get-last.ensures.value) in
    c.new.ensures ∙ c.loop-minute.invariant ∙ ap (λ n. flat_map (step_at c.args.step from) (range_with_len from n)) count
