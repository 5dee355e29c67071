use Rattle.cdm_shift.proofs.SheetLemmas.{sheet_told}
use Rattle.cdm_shift.proofs.load_sheet.load_sheet.Goals as goal

pub returns-clause-text : goal.returns-clause-text
returns-clause-text g c =
    sheet_told (g.R.Records.day c.args.records.now) c.args.airport.now c.args.plan.now c.args.asked c.in_ok-text.text.items c.push_runways.new.text.items
    c.requires c.in_ok-text.ensures c.in_ok-push_runways.ensures
