use Rattle.cdm_json.{proofs.Words.{◌≡◌, ◌++◌, map, take, flat_map, json_tokens, flights_in_cell}, specs.Loads.name_json}
use Rattle.cdm_json.proofs.load.push_names.Given as goal

abbrev pub invariant-loop-slot : goal.invariant-loop-slot
invariant-loop-slot l = record {
  tokens : l.writer.tokens ≡ l.initial.writer.tokens ++ flat_map json_tokens (map name_json (flights_in_cell l.runway (take l.slot-index l.slots) l.cell));
  before : l.writer.before ≡ l.initial.writer.before;
}
