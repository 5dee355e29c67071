use Rattle.std.{proofs.Common.◌≡◌, proofs.Common.◌++◌, proofs.Common.map, proofs.Common.take, specs.Prelude.flat_map}
use Rattle.json.specs.Tree.{json_tokens}
use Rattle.cdm_row.specs.Json.{row_json}
use Rattle.cdm_row.proofs.writing.push_each.Given as goal

abbrev pub invariant-loop-row : goal.invariant-loop-row
invariant-loop-row l = record {
  tokens : l.writer.tokens ≡ l.initial.writer.tokens ++ flat_map json_tokens (map (row_json l.day) (take l.row-index l.rows));
  before : l.writer.before ≡ l.initial.writer.before;
}
