use Rattle.cdm_scenario.proofs.OutcomeLemmas.{HasTaken}
use Rattle.cdm_scenario.proofs.overlay.Overlay.after.Given as goal

-- no update so far was refused
abbrev pub invariant-loop-place : goal.invariant-loop-place
invariant-loop-place l = HasTaken l.base l.updates l.place l.overlay
