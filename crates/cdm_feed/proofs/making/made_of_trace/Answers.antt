use Rattle.std.proofs.{Common.{◌≡◌, ◌∙◌, ap, arith, length}, lemmas.Result.err_from_is_err_and}
use Rattle.cdm_plan.specs.Day.{DayRecord}
use Rattle.cdm_feed.specs.declared.asked.DayText.TheVariants.{Trace}
use Rattle.cdm_feed.proofs.MadeLemmas.{unmade}
use Rattle.cdm_feed.proofs.making.made_of_trace.Goals as goal

pub returns-in_err-text-clause-fault : goal.returns-in_err-text-clause-fault
returns-in_err-text-clause-fault c =
    let bytes = c.args.inputs in
    let asked = c.args.asked in
    let questions = c.in_ok-scenarios.scenarios.items in
    let e = c.in_err-text.field-0.0 in
    let untold = rw c.deref-2.ensures.value at (c.in_err-text.ensures.fault questions) in
    let fault = unmade bytes.airport.items bytes.second.items bytes.third.items c.in_ok-airport.airport questions
    (rw c.deref.ensures.value at c.in_ok-airport.ensures.said) c.in_ok-scenarios.ensures.said (Trace asked.flight asked.since asked.format) e untold in
    let p = err_from_is_err_and c.from_residual-in_err-text.result c.from_residual-in_err-text.ensures.1 in
    rw (p.1, p.2) fault

pub returns-clause-made : goal.returns-clause-made
returns-clause-made c =
    let day = rw c.deref-2.ensures.value at c.in_ok-text.ensures.day in
    let scenarios : c.len.result ≡ length c.in_ok-scenarios.scenarios.items = omega (arith, c.len.ensures, c.in_ok-scenarios.scenarios.ok.0) in
    record {
      rows = c.in_ok-airport.airport;
      airport_file = rw c.deref.ensures.value at c.in_ok-airport.ensures.said;
      questions = c.in_ok-scenarios.scenarios.items;
      scenario_file = c.in_ok-scenarios.ensures.said;
      made = rw c.deref-2.ensures.value at c.in_ok-text.ensures.told;
      counted = λ i. record {
        accepted = (c.accepted.ensures.value ∙ ap (λ (d : DayRecord). length d.journal) (c.state.ensures ∙ day)) i;
        refused = (rw c.deref-2.ensures.value at c.in_ok-text.ensures.refused) i;
        scenarios = scenarios i;
      };
    }
