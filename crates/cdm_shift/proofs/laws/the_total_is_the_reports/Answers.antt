use Rattle.cdm_shift.proofs.TotalLemmas.{total}
use Rattle.cdm_shift.proofs.laws.the_total_is_the_reports.Goals as goal

pub returns : goal.returns
returns c = λ d plan rows sound is are. total d plan sound is (c.a_slot_is_held_its_delay.ensures d plan) rows are
