-- Each exit of the start, by what was done before it.
use Rattle.std.proofs.Common.{◌≡◌, ◌++◌, [], List, ℕ, length, take, rules}
use Rattle.cdm_files.specs.{FeedDay.refusals_in, Records.records_of}
use Rattle.cdm_journal.specs.Journal.{journal_text}
use Rattle.cdm_port.specs.Stop.{Stops}
use Rattle.cdm_serve.{specs.Served.{begun, day_of, reading, ready_text, start_text}, proofs.Ran.on_err}
use Rattle.cdm_serve.proofs.StartLemmas.{begun_all, begun_stops, read_only, unread}
use Rattle.cdm_serve.proofs.starting.start.Goals as goal

pub returns-in_err-found-clause-err : goal.returns-in_err-found-clause-err
returns-in_err-found-clause-err g c =
    let same : g.P.Port.events c.read_port.new.port ≡ g.P.Port.events c.args.port.now = search rules in
    on_err c.from_residual.result (unread c.args.format c.args.airport (g.P.Port.marked c.args.port.now) _ _ same)

pub returns-in_err-state-clause-err : goal.returns-in_err-state-clause-err
returns-in_err-state-clause-err g c =
    let was : g.P.Port.events c.read_port.new.port ≡ g.P.Port.events c.args.port.now ++ reading (g.P.Port.marked c.args.port.now) c.in_ok-found.found.bytes.items = search rules in
    on_err c.from_residual-in_err-state.result (read_only c.args.format c.args.airport _ _ _ _ was)

pub returns-in_err-lines-clause-err : goal.returns-in_err-lines-clause-err
returns-in_err-lines-clause-err g c =
    let was : g.P.Port.events c.read_port.new.port ≡ g.P.Port.events c.args.port.now ++ reading (g.P.Port.marked c.args.port.now) c.in_ok-found.found.bytes.items = search rules in
    on_err c.from_residual-in_err-lines.result (read_only c.args.format c.args.airport _ _ _ _ was)

pub returns-in_err-ready-clause-err : goal.returns-in_err-ready-clause-err
returns-in_err-ready-clause-err g c =
    let was : g.P.Port.events c.read_port.new.port ≡ g.P.Port.events c.args.port.now ++ reading (g.P.Port.marked c.args.port.now) c.in_ok-found.found.bytes.items = search rules in
    on_err c.from_residual-in_err-ready.result (read_only c.args.format c.args.airport _ _ _ _ was)

pub returns-in_err-begin-clause-err : goal.returns-in_err-begin-clause-err
returns-in_err-begin-clause-err g c =
    let was : g.P.Port.events c.read_port.new.port ≡ g.P.Port.events c.args.port.now ++ reading (g.P.Port.marked c.args.port.now) c.in_ok-found.found.bytes.items = search rules in
    let text : List ℕ = take c.in_ok-found.found.taken c.in_ok-found.found.bytes.items in
    let text_is : text ≡ start_text (g.P.Port.marked c.args.port.now) c.in_ok-found.found.bytes.items = search rules in
    let none : refusals_in c.args.airport text ≡ [] = search rules in
    let day : c.in_ok-state.state ≡ day_of c.args.airport (g.P.Port.marked c.args.port.now) c.in_ok-found.found.bytes.items = search rules in
    let lines : c.in_ok-lines.lines.items ≡ journal_text (records_of text) = search rules in
    let ready : c.in_ok-ready.ready.items ≡ ready_text c.args.format (length c.in_ok-state.state.journal) = search rules in
    let told : Stops (g.P.Port.events c.read_port.new.port) (begun c.deref-2.result.now c.deref-3.result.now) (g.P.Port.events c.begin.new.port) = search rules in
    let stop : Stops (g.P.Port.events c.read_port.new.port) (begun c.in_ok-lines.lines.items c.in_ok-ready.ready.items) (g.P.Port.events c.begin.new.port) =
    rw (c.deref-2.ensures.value, c.deref-3.ensures.value) at told in
    on_err c.from_residual-in_err-begin.result (begun_stops c.args.format c.args.airport _ _ _ _ text _ _ _ was text_is none day lines ready _ stop)

pub returns-clause-ok : goal.returns-clause-ok
returns-clause-ok g c =
    let was : g.P.Port.events c.read_port.new.port ≡ g.P.Port.events c.args.port.now ++ reading (g.P.Port.marked c.args.port.now) c.in_ok-found.found.bytes.items = search rules in
    let text : List ℕ = take c.in_ok-found.found.taken c.in_ok-found.found.bytes.items in
    let text_is : text ≡ start_text (g.P.Port.marked c.args.port.now) c.in_ok-found.found.bytes.items = search rules in
    let none : refusals_in c.args.airport text ≡ [] = search rules in
    let day : c.in_ok-state.state ≡ day_of c.args.airport (g.P.Port.marked c.args.port.now) c.in_ok-found.found.bytes.items = search rules in
    let lines : c.in_ok-lines.lines.items ≡ journal_text (records_of text) = search rules in
    let ready : c.in_ok-ready.ready.items ≡ ready_text c.args.format (length c.in_ok-state.state.journal) = search rules in
    let is : g.P.Port.events c.begin.new.port ≡ g.P.Port.events c.read_port.new.port ++ begun c.in_ok-lines.lines.items c.in_ok-ready.ready.items = search rules in
    begun_all c.args.format c.args.airport _ _ _ _ text _ _ _ was text_is none day lines ready _ is
