use Rattle.cdm_json.proofs.Words.{◌≡◌, ◌++◌, map, take, flat_map, string, json_tokens}
use Rattle.cdm_json.proofs.why.push_names.Given as goal

abbrev pub invariant-loop-name : goal.invariant-loop-name
invariant-loop-name l = record {
  tokens : l.writer.tokens ≡ l.initial.writer.tokens ++ flat_map json_tokens (map string (take l.name-index l.names));
  before : l.writer.before ≡ l.initial.writer.before;
}
