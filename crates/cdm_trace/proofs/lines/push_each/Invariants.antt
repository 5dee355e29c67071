use Rattle.std.{proofs.Common.{◌≡◌, ◌++◌, map, take}, specs.Prelude.flat_map}
use Rattle.csv.specs.Records.{fields_of}
use Rattle.json.specs.Tree.{json_tokens}
use Rattle.cdm_trace.specs.Traces.{field_json}
use Rattle.cdm_trace.proofs.lines.push_each.Given as goal

abbrev pub invariant-loop-place : goal.invariant-loop-place
invariant-loop-place l = record {
  tokens : l.writer.tokens ≡ l.initial.writer.tokens ++ flat_map json_tokens (map field_json (take l.place (fields_of l.fn.row)));
  before : l.writer.before ≡ l.initial.writer.before;
}
