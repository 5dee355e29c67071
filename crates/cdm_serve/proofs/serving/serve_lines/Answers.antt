-- Each exit of the loop, by what was served before it.
use Rattle.std.proofs.Common.{◌≡◌, ◌≤◌, ◌^◌, ◌++◌, [], ◌∷◌, refl, rules, arith}
use Rattle.cdm_journal.specs.Lines.{read_as}
use Rattle.cdm_port.specs.{Event.Event.End, Stop.Stops}
use Rattle.cdm_serve.specs.{Requests.request_of, Served.{IsReplyTo, answered, numbered}, Taken.after}
use Rattle.cdm_serve.specs.inner.Steps.{HearsInVain, HearsLine, IsAnswerFault, IsLinesFault, IsPortFault, text_of}
use Rattle.cdm_serve.proofs.Ran.{answer_fault, behind, between, ended, goes_on, in_vain, midst, no_turn_left, none_ran, on_err, port_fault}
use Rattle.cdm_serve.proofs.Ran.{too_many}
use Rattle.cdm_serve.proofs.serving.serve_lines.Goals as goal

-- no line was served yet
pub lines-init : goal.lines-init
lines-init g c = record { ran = none_ran _ _ _ _; unfailed = refl }

-- the input is at its end
pub returns-in_default-clause-ok : goal.returns-in_default-clause-ok
returns-in_default-clause-ok g c =
    let is : g.P.Port.events c.hear.new.port ≡ g.P.Port.events c.lines.port ++ End ∷ [] = search rules in
    ended _ _ _ _ _ _ _ _ c.lines.invariant.ran _ is

-- the input failed

pub returns-in_err-read-clause-err : goal.returns-in_err-read-clause-err
returns-in_err-read-clause-err g c =
    let vain : HearsInVain (g.P.Port.events c.lines.port) (g.P.Port.events c.hear.new.port) = search rules in
    on_err c.from_residual.result (in_vain _ _ _ _ _ _ _ _ c.lines.invariant.ran _ vain)

pub returns-in_err-read-clause-fault : goal.returns-in_err-read-clause-fault
returns-in_err-read-clause-fault g c =
    let is : IsPortFault c.in_err-read.field-0.0 = search rules in
    let fault : IsLinesFault c.args.day.number (g.P.Port.events c.args.port.now) (g.P.Port.events c.hear.new.port) c.in_err-read.field-0.0 = port_fault _ _ _ _ is in
    search rules

-- a line has no answer

pub returns-in_err-answer-clause-err : goal.returns-in_err-answer-clause-err
returns-in_err-answer-clause-err g c =
    let hears : HearsLine (g.P.Port.events c.lines.port) (g.P.Port.events c.hear.new.port) (read_as c.in-Some.read) = search rules in
    on_err c.from_residual-in_err-answer.result (behind _ _ _ _ _ _ _ _ c.lines.invariant.ran _ _ hears)

pub returns-in_err-answer-clause-fault : goal.returns-in_err-answer-clause-fault
returns-in_err-answer-clause-fault g c =
    let hears : HearsLine (g.P.Port.events c.lines.port) (g.P.Port.events c.hear.new.port) (read_as c.in-Some.read) = search rules in
    let is : IsAnswerFault c.lines.day.number c.in_err-answer.field-0.0 = search rules in
    let fault : IsLinesFault c.args.day.number (g.P.Port.events c.args.port.now) (g.P.Port.events c.hear.new.port) c.in_err-answer.field-0.0 =
    answer_fault _ _ _ _ _ is (too_many _ _ _ _ _ _ _ _ c.lines.invariant.ran _ _ hears) in
    search rules

-- an answer stopped

pub returns-in_err-perform-clause-err : goal.returns-in_err-perform-clause-err
returns-in_err-perform-clause-err g c =
    let hears : HearsLine (g.P.Port.events c.lines.port) (g.P.Port.events c.hear.new.port) (read_as c.in-Some.read) = search rules in
    let reply : IsReplyTo c.args.form c.lines.day.desk (numbered c.lines.day.number (read_as c.in-Some.read))
    (request_of c.lines.day.desk.airport.day (read_as c.in-Some.read)) (text_of c.in_ok-answer.answer) = search rules in
    let stop : Stops (g.P.Port.events c.hear.new.port) (answered c.lines.day.desk (read_as c.in-Some.read) (text_of c.in_ok-answer.answer)) (g.P.Port.events c.perform.new.port) = search rules in
    on_err c.from_residual-in_err-perform.result (midst _ _ _ _ _ _ _ _ c.lines.invariant.ran _ _ _ hears reply _ stop)

pub lines-preserved : goal.lines-preserved
lines-preserved g c =
    let hears : HearsLine (g.P.Port.events c.lines.port) (g.P.Port.events c.hear.new.port) (read_as c.in-Some.read) = search rules in
    let reply : IsReplyTo c.args.form c.lines.day.desk (numbered c.lines.day.number (read_as c.in-Some.read))
    (request_of c.lines.day.desk.airport.day (read_as c.in-Some.read)) (text_of c.in_ok-answer.answer) = search rules in
    let was : g.P.Port.events c.perform.new.port ≡ g.P.Port.events c.hear.new.port ++ answered c.lines.day.desk (read_as c.in-Some.read) (text_of c.in_ok-answer.answer) = search rules in
    let next : c.answer.new.self.desk ≡ after c.lines.day.desk (read_as c.in-Some.read) = search rules in
    let more : c.answer.new.self.number ≡ numbered c.lines.day.number (read_as c.in-Some.read) = search rules in
    record {
      ran = goes_on _ _ _ _ _ _ _ _ c.lines.invariant.ran _ _ _ hears reply _ _ _ was next more;
      unfailed = search rules;
    }

-- more lines than can be counted

pub returns-clause-err : goal.returns-clause-err
returns-clause-err g c = between _ _ _ _ _ _ _ _ c.lines.invariant.ran

pub returns-clause-fault : goal.returns-clause-fault
returns-clause-fault g c =
    let most : 2 ^ 32 ≤ c.lines.counter = omega arith in
    no_turn_left _ _ _ _ _ _ _ _ c.lines.invariant.ran most
