use Rattle.cdm_check.specs.Check.{AreHintsOf}
use Rattle.cdm_check.proofs.hints.lines_of.Given as goal

abbrev pub invariant-loop-hint : goal.invariant-loop-hint
invariant-loop-hint l = AreHintsOf l.format l.path l.text.items
