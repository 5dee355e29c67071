use Rattle.cdm_view.proofs.{OutcomeLemmas.blocked, ReasonLemmas.always, ReasonLemmas.among, ReasonLemmas.last}
use Rattle.cdm_view.proofs.waiting_laws.a_blocked_flight_waits_always.Goals as goal

pub returns : goal.returns
returns c = record {
  held = λ d plan f w b is i named. always w b.rule (blocked d plan f w is b i named);
  last = λ d plan f w b is i named. last w b.rule (blocked d plan f w is b i named);
  among = λ d plan f w b is i named. among w b.rule (blocked d plan f w is b i named);
}
