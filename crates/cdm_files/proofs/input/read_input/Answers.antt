use Rattle.cdm_files.proofs.Words.{arith, append_assoc, take, length-append, common_steps, Consumes-trans, ◌∙◌}
use Rattle.cdm_files.proofs.input.read_input.Goals as goal

pub returns-then-len-count-gt-INPUT_LIMIT-clause-too_long : goal.returns-then-len-count-gt-INPUT_LIMIT-clause-too_long
returns-then-len-count-gt-INPUT_LIMIT-clause-too_long g c = λ _. (
  _,
  (rw c.loop-count.invariant.passed at c.in-Ok.ensures.passed) ∙ append_assoc c.args.device.now.passed c.loop-count.input.items (take c.in-Ok.count c.read.new.buf),
  Consumes-trans _ _ _ _ _ c.loop-count.invariant.bytes c.in-Ok.ensures.bytes.0,
  grind (arith, common_steps, length-append),
)

pub returns-in_err-extend_from_slice-clause-within : goal.returns-in_err-extend_from_slice-clause-within
returns-in_err-extend_from_slice-clause-within g c = λ _. (
  _,
  (rw c.loop-count.invariant.passed at c.in-Ok.ensures.passed) ∙ append_assoc c.args.device.now.passed c.loop-count.input.items (take c.in-Ok.count c.read.new.buf),
  Consumes-trans _ _ _ _ _ c.loop-count.invariant.bytes c.in-Ok.ensures.bytes.0,
  grind (arith, common_steps, length-append),
)
