-- A day that isn't started, or is served to its end or to some moment.
use Rattle.std.proofs.Common.{Bool, rules}
use Rattle.cdm_port.specs.Stop.{since}
use Rattle.cdm_serve.specs.{Faults.IsServeFault, inner.Steps.{IsStartFault, StartStops, Starts}}
use Rattle.cdm_serve.proofs.Runs.{finished, finished_fault, finished_served, start_fault, unstarted}
use Rattle.cdm_serve.proofs.serving.serve.Goals as goal

-- it isn't started
pub returns-in_err-state : goal.returns-in_err-state
returns-in_err-state g c =
    let marked : Bool = g.P.Port.marked c.args.port.now in
    let stops : StartStops c.args.form.format c.args.airport marked (g.P.Port.events c.args.port.now) (g.P.Port.events c.start.new.port) = search rules in
    let is : IsStartFault c.args.airport marked (g.P.Port.events c.args.port.now) (g.P.Port.events c.start.new.port) c.in_err-state.field-0.0 = search rules in
    let fault : IsServeFault c.args.airport marked (since (g.P.Port.events c.args.port.now) (g.P.Port.events c.start.new.port)) c.in_err-state.field-0.0 = start_fault c.args.form _ _ _ _ _ is in
    let over = unstarted _ _ _ _ _ stops in
    record {
      log = over.log;
      served = search rules;
      stopped = over.stopped;
      kept = over.all_kept;
      fault = search rules;
      failed = search rules;
    }

-- lines are served
pub returns : goal.returns
returns g c =
    let marked : Bool = g.P.Port.marked c.args.port.now in
    let begun : Starts c.args.form.format c.args.airport marked (g.P.Port.events c.args.port.now) (g.P.Port.events c.start.new.port) c.in_ok-state.state = search rules in
    let start : Starts c.args.form.format c.args.airport marked (g.P.Port.events c.args.port.now) (g.P.Port.events c.start.new.port) c.new-desk.result = rw c.new-desk.ensures begun in
    let over = finished c.args.form c.args.airport marked c.new-desk.result _ _ _ start c.serve_lines.result c.serve_lines.ensures.ok c.serve_lines.ensures.err in
    record {
      log = over.log;
      served = finished_served c.args.form c.args.airport marked c.new-desk.result _ _ _ start c.serve_lines.result c.serve_lines.ensures.ok;
      stopped = over.stopped;
      kept = over.all_kept;
      fault = finished_fault c.args.form c.args.airport marked c.new-desk.result _ _ _ start c.serve_lines.result c.serve_lines.ensures.fault;
      failed = search rules;
    }
