use Rattle.std.proofs.Common.{None, subst, sym}
use Rattle.cdm_feed.{specs.Made.IsUntold, specs.declared.asked.DayText.TheVariants.Answer, proofs.AskedLemmas.base_fault}
use Rattle.cdm_feed.proofs.making.answer_of_base.Goals as goal

pub returns-in-Err-clause-fault : goal.returns-in-Err-clause-fault
returns-in-Err-clause-fault c =
    let day = c.args.day.now in
    subst (IsUntold (Answer c.args.asking.question None c.args.asking.format) day.state day.scenarios.items) (sym c.view_error.ensures)
    (base_fault c.args.asking.question c.args.asking.format day.state day.scenarios.items c.in-Err.fault c.in-Err.ensures.fault)
