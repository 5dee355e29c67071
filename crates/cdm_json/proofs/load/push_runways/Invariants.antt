use Rattle.cdm_json.{proofs.Words.{◌≡◌, ◌++◌, take, filter, flat_map, rules_in, is_asked}, specs.Loads.load_line}
use Rattle.cdm_json.proofs.load.push_runways.Given as goal

-- the runways so far
abbrev pub invariant-loop-place : goal.invariant-loop-place
invariant-loop-place g l =
    let d = g.R.Records.day l.records in
    l.text.items ≡ l.initial.text.items ++ flat_map (load_line l.airport l.number l.plan) (filter (is_asked l.asked) (take l.place (rules_in d.airport d.journal)))
