use Rattle.std.proofs.{Common.arith, lemmas.Grind.common_steps}
use Rattle.cdm_plan.proofs.ListWords.{append-nil}
use Rattle.cdm_report.proofs.Widths.{left_text}
use Rattle.cdm_view.{proofs.LoadLemmas.left_short, specs.Standings.standing_line}
use Rattle.cdm_view.proofs.standing.push_standing.Goals as goal

pub returns-in-OnRunway : goal.returns-in-OnRunway
unfolding standing_line
returns-in-OnRunway c =
    let name = left_short 3 c.text-runway.result.now c.text-runway.ensures.ascii c.text-runway.ensures.short (omega arith) (omega arith) in
    grind (arith, common_steps, name, append-nil)

pub returns-in-Blocked : goal.returns-in-Blocked
unfolding standing_line
returns-in-Blocked c = grind (arith, common_steps, left_text, append-nil)
