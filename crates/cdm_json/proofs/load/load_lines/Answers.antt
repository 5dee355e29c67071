use Rattle.cdm_json.proofs.LoadLemmas.{load_told}
use Rattle.cdm_json.proofs.load.load_lines.Goals as goal

pub returns-clause-text : goal.returns-clause-text
returns-clause-text g c =
    load_told (g.R.Records.day c.args.records.now) c.args.airport.now c.args.number c.args.plan.now c.args.asked c.new-text.result.items c.push_runways.new.text.items
    c.requires c.new-text.ensures.items c.in_ok-push_runways.ensures
