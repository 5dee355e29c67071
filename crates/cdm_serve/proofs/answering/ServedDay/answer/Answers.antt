use Rattle.std.proofs.Common.{◌≡◌, [], sym, ap, rules}
use Rattle.cdm_journal.specs.Lines.{LineRecord, read_as, LineRecord.Blank}
use Rattle.cdm_serve.specs.{Requests.request_of, Served.{answered, numbered}, declared.request.Request.TheVariants.Nothing}
use Rattle.cdm_serve.proofs.AnswerLemmas.{blank_line}
use Rattle.cdm_serve.proofs.answering.ServedDay.answer.Goals as goal

pub returns-in-Nothing-clause-events : goal.returns-in-Nothing-clause-events
returns-in-Nothing-clause-events g c =
    let nothing : request_of c.args.self.now.desk.airport.day (read_as c.args.read.now) ≡ Nothing = search rules in
    let blank : read_as c.args.read.now ≡ Blank = blank_line _ _ nothing in
    sym (ap (λ (l : LineRecord). answered c.args.self.now.desk l []) blank)

pub returns-in-Nothing-clause-number : goal.returns-in-Nothing-clause-number
returns-in-Nothing-clause-number g c =
    let nothing : request_of c.args.self.now.desk.airport.day (read_as c.args.read.now) ≡ Nothing = search rules in
    let blank : read_as c.args.read.now ≡ Blank = blank_line _ _ nothing in
    sym (ap (λ (l : LineRecord). numbered c.args.self.now.number l) blank)
