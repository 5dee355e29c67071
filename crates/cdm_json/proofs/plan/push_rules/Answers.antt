use Rattle.cdm_json.{proofs.Words.{flat_map, zip, on_ok_weaker, all_rules, object_written}, specs.Plans.rule_members}
use Rattle.cdm_json.proofs.plan.push_rules.Goals as goal

pub returns-clause-tokens : goal.returns-clause-tokens
returns-clause-tokens c =
    let first = rw c.in_ok-begin_object.was at c.begin_object.ensures.ok in
    on_ok_weaker c.end_object.result (λ last.
    object_written c.args.writer.now.tokens c.begin_object.new.self.tokens c.push_rule_members.new.writer.tokens c.end_object.new.self.tokens
    (flat_map rule_members (zip all_rules c.args.counts.now.by_rule)) first c.in_ok-push_rule_members.ensures.tokens last)
    c.end_object.ensures.ok
