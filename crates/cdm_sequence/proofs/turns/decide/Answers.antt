use Rattle.cdm_sequence.proofs.{Words.{sym, subst, ◌∙◌, Load, ArePassed}, turns.decide.Goals.{in-Ok, in_default}}
use Rattle.cdm_runway.proofs.PassedLemmas.{passed_more}
use Rattle.cdm_sequence.proofs.turns.decide.Goals as goal

pub returns-clause-passed : goal.returns-clause-passed
returns-clause-passed c = elim c.match-outcome.branch [
  | in-Ok w ↦
      subst (λ (l : Load). ArePassed c.args.runway.now l.taken c.earliest_past-outcome.new.passed) (sym (w.load-is ∙ w.take.ensures))
      (passed_more c.args.runway.now c.args.load.now.taken _ c.earliest_past-outcome.new.passed c.earliest_past-outcome.ensures.passed)
  | in_default w ↦
      subst (λ (l : Load). ArePassed c.args.runway.now l.taken c.earliest_past-outcome.new.passed) (sym w.load-is) c.earliest_past-outcome.ensures.passed
]
