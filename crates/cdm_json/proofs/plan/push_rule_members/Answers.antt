use Rattle.cdm_json.proofs.Words.{◌∙◌, ◌++◌, ℕ, List, rules, ap, sym, get_or, flat_map, zip, all_taken, Token, all_rules, member_tokens}
use Rattle.cdm_json.{proofs.TokenLemmas.{nested, pair_more}, specs.Plans.rule_members}
use Rattle.cdm_sequence.specs.declared.rule.Rule.{Rule, TheVariants.Tobt}
use Rattle.cdm_json.proofs.plan.push_rule_members.Goals as goal

pub loop-place-preserved : goal.loop-place-preserved
loop-place-preserved c =
    let told : Rule × ℕ → List Token = λ pair. flat_map member_tokens (rule_members pair) in
    let count = get_or c.args.by_rule.now c.loop-place.place 0 in
    record {
      tokens =
          pair_more told c.args.writer.now.tokens c.loop-place.writer.tokens c.push_rule.new.writer.tokens all_rules c.args.by_rule.now c.loop-place.place Tobt 0
          (search rules) (search rules) c.loop-place.invariant.tokens
          (c.in_ok-push_rule.ensures.tokens
          ∙ ap (λ rs. c.loop-place.writer.tokens ++ told (get_or rs c.loop-place.place Tobt, count)) c.all-rules.ensures);
      before = c.in_ok-push_rule.ensures.before ∙ c.loop-place.invariant.before;
    }

pub returns-clause-tokens : goal.returns-clause-tokens
returns-clause-tokens c =
    let pairs = zip all_rules c.args.by_rule.now in
    let told : Rule × ℕ → List Token = λ pair. flat_map member_tokens (rule_members pair) in
    c.loop-place.invariant.tokens
    ∙ ap (λ ps. c.args.writer.now.tokens ++ flat_map told ps) (all_taken pairs c.loop-place.place (search rules))
    ∙ ap (λ ts. c.args.writer.now.tokens ++ ts) (sym (nested rule_members pairs))
