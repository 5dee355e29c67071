use Rattle.cdm_json.{proofs.Words.{◌≡◌, ◌++◌, map, take, flat_map, json_tokens}, specs.Whys.wait_json}
use Rattle.cdm_json.proofs.why.push_each.Given as goal

abbrev pub invariant-loop-run : goal.invariant-loop-run
invariant-loop-run l = record {
  tokens : l.writer.tokens ≡ l.initial.writer.tokens ++ flat_map json_tokens (map (wait_json l.day) (take l.run-index l.runs));
  before : l.writer.before ≡ l.initial.writer.before;
}
