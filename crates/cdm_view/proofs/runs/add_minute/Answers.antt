use Rattle.std.proofs.{Common.arith, lemmas.Grind.common_steps}
use Rattle.cdm_view.proofs.RunLemmas.{runs_first, runs_other, runs_same}
use Rattle.cdm_view.proofs.runs.add_minute.Goals.{in-Some+else-get+in_ok-push-2, else-get-via-then-get+else-is, else-get-via-else-get}
use Rattle.cdm_view.proofs.runs.add_minute.Goals.{in_default}
use Rattle.cdm_view.proofs.runs.add_minute.Goals as goal

pub returns-then-is : goal.returns-then-is
returns-then-is c = grind (arith, common_steps, runs_same)

pub returns : goal.returns
returns c =
    grind (arith, common_steps, in-Some+else-get+in_ok-push-2, else-get-via-then-get+else-is, else-get-via-else-get, runs_other, in_default, runs_first)
