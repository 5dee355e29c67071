use Rattle.std.proofs.Common.{ap, ◌∙◌}
use Rattle.cdm_flight.specs.Accepted.{accepted}
use Rattle.cdm_plan.specs.DayPlan.{records_in}
use Rattle.std.specs.Prelude.{[]}
use Rattle.cdm_change.proofs.AcceptLemmas.{all_accepted}
use Rattle.cdm_change.proofs.FiledLemmas.{keeps_hours}
use Rattle.cdm_change.proofs.RecordLemmas.{records_in-next}
use Rattle.cdm_change.proofs.laws.flights_go_on.Goals as goal

pub returns : goal.returns
returns c = λ text g h records filed same.
    ap (λ a. records_in h a) (all_accepted g h records (keeps_hours text g filed) same).journal ∙ records_in-next g h same.taxi (accepted g [] records)
