use Rattle.cdm_json.{proofs.Words.{◌≡◌, ◌-◌, ◌++◌, flat_map, range_with_len, json_tokens}, specs.Loads.cell_json}
use Rattle.cdm_json.proofs.load.push_each.Given as goal

abbrev pub invariant-loop-cell : goal.invariant-loop-cell
invariant-loop-cell l = record {
  tokens : l.writer.tokens ≡ l.initial.writer.tokens ++ flat_map (λ k. json_tokens (cell_json l.day l.runway l.slots k)) (range_with_len l.from (l.cell - l.from));
  before : l.writer.before ≡ l.initial.writer.before;
}
