use Rattle.cdm_json.{proofs.Words.{◌≡◌, ◌++◌, map, take, flat_map, json_tokens}, specs.Plans.refused_json}
use Rattle.cdm_json.proofs.plan.push_refusals.Given as goal

abbrev pub invariant-loop-refusal : goal.invariant-loop-refusal
invariant-loop-refusal l = record {
  tokens : l.writer.tokens ≡ l.initial.writer.tokens ++ flat_map json_tokens (map refused_json (take l.refusal-index l.refused));
  before : l.writer.before ≡ l.initial.writer.before;
}
