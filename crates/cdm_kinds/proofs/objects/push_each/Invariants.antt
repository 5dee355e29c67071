use Rattle.std.{proofs.Common.{◌≡◌, ◌++◌, take}, specs.Prelude.flat_map}
use Rattle.json.specs.Tree.{json_tokens}
use Rattle.cdm_kinds.specs.Table.{field_json}
use Rattle.cdm_kinds.proofs.objects.push_each.Given as goal

abbrev pub invariant-loop-field : goal.invariant-loop-field
invariant-loop-field l = record {
  tokens : l.writer.tokens ≡ l.initial.writer.tokens ++ flat_map (λ field. json_tokens (field_json field)) (take l.field-index l.fields);
  before : l.writer.before ≡ l.initial.writer.before;
}
