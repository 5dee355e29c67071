use Rattle.std.proofs.{Common.◌∙◌, Common.arith, lemmas.Grind.common_steps}
use Rattle.cdm_plan.proofs.NameLemmas.{all_taken}
use Rattle.cdm_row.{specs.Columns.columns, specs.Columns.value_of, proofs.TokenLemmas.members_next}
use Rattle.cdm_row.proofs.writing.push_members.Goals as goal

pub loop-place-preserved : goal.loop-place-preserved
loop-place-preserved c = record {
  tokens = members_next c.column_names-names.result (λ name. name.now) c.values-values.result value_of c.args.day c.args.row.now c.loop-place.place _
      c.index-values-place.result c.args.writer.now.tokens c.loop-place.writer.tokens c.push_member.new.writer.tokens c.column_names-names.ensures
      c.values-values.ensures c.loop-place-test.true c.loop-place.invariant.tokens c.in_ok-push_member.ensures.tokens;
  before = c.in_ok-push_member.ensures.before ∙ c.loop-place.invariant.before;
}

pub returns-clause-tokens : goal.returns-clause-tokens
unfolding columns
returns-clause-tokens c = grind (arith, common_steps, all_taken)
