use Rattle.cdm_row.proofs.OverLemmas.{changed_suffice}
use Rattle.cdm_row.proofs.laws.changed_rows_suffice.Goals as goal

pub returns : goal.returns
returns c = λ d next plan next_plan more had after sound longer before then. changed_suffice d next plan next_plan more had after sound longer before then
