use Rattle.std.proofs.Common.{◌+◌, arith, refl, ◌∙◌}
use Rattle.cdm_board.proofs.Desks.{once-more}
use Rattle.cdm_board.proofs.close.are_numbered.Goals as goal

pub returns-then-count_numbered-ne1 : goal.returns-then-count_numbered-ne1
returns-then-count_numbered-ne1 c =
    (λ untrue. cc, λ numbered. absurd (c.if-count_numbered-ne1.true (c.count_numbered.ensures ∙ numbered.once (c.loop-before.before + 1) (omega arith) (omega arith))))

pub loop-before-preserved : goal.loop-before-preserved
loop-before-preserved c =
    once-more c.loop-before.before c.args.desks.now c.count_numbered.result c.count_numbered.ensures c.if-count_numbered-ne1.false c.loop-before.invariant

pub returns : goal.returns
returns c = (
  λ _. record {
    in_range = c.are_in_range.ensures.0 c.if-not-are_in_range.false;
    once = λ d low high. c.loop-before.invariant d low (omega arith);
  },
  λ _. refl,
)
