use Rattle.cdm_view.proofs.OutcomeLemmas.{placed}
use Rattle.cdm_view.proofs.waiting_laws.a_placed_flight_waits_its_delay.Goals as goal

pub returns : goal.returns
returns c = record {
  within = λ d plan f w s is i named. (placed d plan f w is s i named).within;
  delayed = λ d plan f w s is i named. (placed d plan f w is s i named).delayed;
  held = λ d plan f w s is i named. (placed d plan f w is s i named).held;
  free = λ d plan f w s is i named. (placed d plan f w is s i named).free;
}
