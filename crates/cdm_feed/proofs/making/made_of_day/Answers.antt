use Rattle.std.proofs.{Common.subst, lemmas.Result.err_from_is_err_and}
use Rattle.cdm_table.specs.Tables.{IsTable}
use Rattle.cdm_picture.specs.Pictures.{IsPicture}
use Rattle.cdm_flight.specs.Journal.{flight_of}
use Rattle.cdm_options_text.specs.Texts.{IsOptionsText}
use Rattle.cdm_plan.specs.Day.{DayRecord}
use Rattle.cdm_feed.specs.Made.{IsAskedOf, IsPlanIn, IsUntold, IsView}
use Rattle.cdm_feed.specs.declared.asked.DayText.TheVariants.{Plan, Table, Picture, Answer, Options}
use Rattle.cdm_feed.proofs.MadeLemmas.{made-of, unmade}
use Rattle.cdm_feed.proofs.making.made_of_day.Goals as goal

pub returns-in_ok-text-in-Plan-clause-made : goal.returns-in_ok-text-in-Plan-clause-made
returns-in_ok-text-in-Plan-clause-made g c =
    let bytes = c.args.inputs in
    let day = c.in_ok-day-in-Plan.day in
    let is = c.in_ok-day-in-Plan.ensures in
    let text = c.in_ok-text-in-Plan.text.items in
    made-of bytes.airport.items bytes.second.items bytes.third.items day.state.airport day.scenarios.items is.airport is.scenarios
    c.args.asked (Plan c.in-Plan.format) day.state day.refused.items text c.made_with.result.text.items c.made_with.result.counted
    (λ d words. IsPlanIn c.in-Plan.format d words day.scenarios.items text) c.in-Plan.is (λ h. h)
    is.state is.refused c.in_ok-text-in-Plan.ensures (λ i. (c.made_with.ensures.text i).items) c.made_with.ensures.counted

pub returns-in_ok-text-in-Table-clause-made : goal.returns-in_ok-text-in-Table-clause-made
returns-in_ok-text-in-Table-clause-made g c =
    let bytes = c.args.inputs in
    let day = c.in_ok-day-in-Table.day in
    let is = c.in_ok-day-in-Table.ensures in
    let text = c.in_ok-text-in-Table.text.items in
    made-of bytes.airport.items bytes.second.items bytes.third.items day.state.airport day.scenarios.items is.airport is.scenarios
    c.args.asked (Table c.in-Table.table) day.state day.refused.items text c.made_with-in-Table.result.text.items c.made_with-in-Table.result.counted
    (λ d words. IsTable c.in-Table.table d day.scenarios.items text) c.in-Table.is (λ h. h)
    is.state is.refused c.in_ok-text-in-Table.ensures.made (λ i. (c.made_with-in-Table.ensures.text i).items) c.made_with-in-Table.ensures.counted

pub returns-in_err-text-in-Table-clause-fault : goal.returns-in_err-text-in-Table-clause-fault
returns-in_err-text-in-Table-clause-fault g c =
    let bytes = c.args.inputs in
    let day = c.in_ok-day-in-Table.day in
    let is = c.in_ok-day-in-Table.ensures in
    let e = c.in_err-text-in-Table.field-0.0 in
    let asked = Table c.in-Table.table in
    let untold = subst (λ (d : DayRecord). IsUntold asked d day.scenarios.items e) is.state c.in_err-text-in-Table.ensures.fault in
    let fault = unmade bytes.airport.items bytes.second.items bytes.third.items day.state.airport day.scenarios.items is.airport is.scenarios asked e untold in
    let p = err_from_is_err_and c.from_residual-in_err-text-in-Table.result c.from_residual-in_err-text-in-Table.ensures.1 in
    rw (p.1, p.2, c.in-Table.is) fault

pub returns-in_ok-text-in-Picture-clause-made : goal.returns-in_ok-text-in-Picture-clause-made
returns-in_ok-text-in-Picture-clause-made g c =
    let bytes = c.args.inputs in
    let day = c.in_ok-day-in-Picture.day in
    let is = c.in_ok-day-in-Picture.ensures in
    let text = c.in_ok-text-in-Picture.text.items in
    made-of bytes.airport.items bytes.second.items bytes.third.items day.state.airport day.scenarios.items is.airport is.scenarios
    c.args.asked Picture day.state day.refused.items text c.made_with-in-Picture.result.text.items c.made_with-in-Picture.result.counted
    (λ d words. IsPicture d day.scenarios.items text) c.in-Picture.is (λ h. h)
    is.state is.refused c.in_ok-text-in-Picture.ensures (λ i. (c.made_with-in-Picture.ensures.text i).items) c.made_with-in-Picture.ensures.counted

pub returns-in_ok-text-in-Answer-clause-made : goal.returns-in_ok-text-in-Answer-clause-made
returns-in_ok-text-in-Answer-clause-made g c =
    let bytes = c.args.inputs in
    let day = c.in_ok-day-in-Answer.day in
    let is = c.in_ok-day-in-Answer.ensures in
    let text = c.in_ok-text-in-Answer.text.items in
    made-of bytes.airport.items bytes.second.items bytes.third.items day.state.airport day.scenarios.items is.airport is.scenarios
    c.args.asked (Answer c.in-Answer.question c.in-Answer.scenario c.in-Answer.format) day.state day.refused.items text c.made_with-in-Answer.result.text.items c.made_with-in-Answer.result.counted
    (λ d words. IsView c.in-Answer.format c.in-Answer.question (IsAskedOf c.in-Answer.scenario d day.scenarios.items) text) c.in-Answer.is (λ h. h)
    is.state is.refused c.in_ok-text-in-Answer.ensures.made (λ i. (c.made_with-in-Answer.ensures.text i).items) c.made_with-in-Answer.ensures.counted

pub returns-in_err-text-in-Answer-clause-fault : goal.returns-in_err-text-in-Answer-clause-fault
returns-in_err-text-in-Answer-clause-fault g c =
    let bytes = c.args.inputs in
    let day = c.in_ok-day-in-Answer.day in
    let is = c.in_ok-day-in-Answer.ensures in
    let e = c.in_err-text-in-Answer.field-0.0 in
    let asked = Answer c.in-Answer.question c.in-Answer.scenario c.in-Answer.format in
    let untold = subst (λ (d : DayRecord). IsUntold asked d day.scenarios.items e) is.state c.in_err-text-in-Answer.ensures.fault in
    let fault = unmade bytes.airport.items bytes.second.items bytes.third.items day.state.airport day.scenarios.items is.airport is.scenarios asked e untold in
    let p = err_from_is_err_and c.from_residual-in_err-text-in-Answer.result c.from_residual-in_err-text-in-Answer.ensures.1 in
    rw (p.1, p.2, c.in-Answer.is) fault

pub returns-in_ok-text-in-Options-clause-made : goal.returns-in_ok-text-in-Options-clause-made
returns-in_ok-text-in-Options-clause-made g c =
    let bytes = c.args.inputs in
    let day = c.in_ok-day-in-Options.day in
    let is = c.in_ok-day-in-Options.ensures in
    let text = c.in_ok-text-in-Options.text.items in
    let name = c.in-Options.name in
    made-of bytes.airport.items bytes.second.items bytes.third.items day.state.airport day.scenarios.items is.airport is.scenarios
    c.args.asked (Options name c.in-Options.role c.in-Options.format) day.state day.refused.items text c.made_with-in-Options.result.text.items c.made_with-in-Options.result.counted
    (λ d words. IsOptionsText c.in-Options.format d (flight_of d.airport d.journal name) c.in-Options.role text) c.in-Options.is (λ h. h)
    is.state is.refused c.in_ok-text-in-Options.ensures.made (λ i. (c.made_with-in-Options.ensures.text i).items) c.made_with-in-Options.ensures.counted

pub returns-in_err-text-in-Options-clause-fault : goal.returns-in_err-text-in-Options-clause-fault
returns-in_err-text-in-Options-clause-fault g c =
    let bytes = c.args.inputs in
    let day = c.in_ok-day-in-Options.day in
    let is = c.in_ok-day-in-Options.ensures in
    let e = c.in_err-text-in-Options.field-0.0 in
    let asked = Options c.in-Options.name c.in-Options.role c.in-Options.format in
    let untold = subst (λ (d : DayRecord). IsUntold asked d day.scenarios.items e) is.state c.in_err-text-in-Options.ensures.fault in
    let fault = unmade bytes.airport.items bytes.second.items bytes.third.items day.state.airport day.scenarios.items is.airport is.scenarios asked e untold in
    let p = err_from_is_err_and c.from_residual-in_err-text-in-Options.result c.from_residual-in_err-text-in-Options.ensures.1 in
    rw (p.1, p.2, c.in-Options.is) fault
