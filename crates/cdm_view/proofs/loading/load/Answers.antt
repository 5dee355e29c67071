use Rattle.std.specs.String.{string_bytes}
use Rattle.cdm_view.proofs.LoadLemmas.{load_one, load_told}
use Rattle.cdm_view.proofs.loading.load.Goals as goal

pub returns-clause-text : goal.returns-clause-text
returns-clause-text g c =
    rw (c.into_bytes.ensures.value)
    (load_told (g.R.Records.day c.args.records.now) c.args.airport.now c.args.plan.now c.args.runway c.day.result.now c.plan.inside.clock
    (string_bytes c.new-text.result) (string_bytes c.push_day.new.text) (string_bytes c.push_runways.new.text)
    c.requires c.day.ensures (cc) c.new-text.ensures.bytes c.in_ok-push_day.ensures c.in_ok-push_runways.ensures)

pub returns-clause-only : goal.returns-clause-only
returns-clause-only g c =
    rw (c.into_bytes.ensures.value)
    (load_one (g.R.Records.day c.args.records.now) c.args.airport.now c.args.plan.now c.args.runway c.day.result.now c.plan.inside.clock
    (string_bytes c.new-text.result) (string_bytes c.push_day.new.text) (string_bytes c.push_runways.new.text)
    c.requires c.day.ensures (cc) c.new-text.ensures.bytes c.in_ok-push_day.ensures c.in_ok-push_runways.ensures)
