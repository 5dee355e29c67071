use Rattle.cdm_json.{proofs.Words.{◌≡◌, ◌++◌, take, flat_map, zip, all_rules, member_tokens}, specs.Plans.rule_members}
use Rattle.cdm_json.proofs.plan.push_rule_members.Given as goal

abbrev pub invariant-loop-place : goal.invariant-loop-place
invariant-loop-place l = record {
  tokens : l.writer.tokens ≡ l.initial.writer.tokens ++ flat_map (λ pair. flat_map member_tokens (rule_members pair)) (take l.place (zip all_rules l.by_rule));
  before : l.writer.before ≡ l.initial.writer.before;
}
