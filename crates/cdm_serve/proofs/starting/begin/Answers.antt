use Rattle.std.proofs.{Common.{◌≡◌, ◌∙◌, ◌++◌, [], ◌∷◌, List, ap, append_assoc, refl, rules}, lemmas.Result.on_err_weaker}
use Rattle.cdm_port.specs.{Event.Event, Event.Event.{Flushed, Marked, Renamed, Replied, Synced}, Stop.Stops}
use Rattle.cdm_port.proofs.Stops.{goes_on}
use Rattle.cdm_serve.proofs.{Ran.on_err, StartLemmas.stops_longer}
use Rattle.cdm_serve.proofs.starting.begin.Goals as goal

pub returns-in_err-replace-clause-err : goal.returns-in_err-replace-clause-err
returns-in_err-replace-clause-err g c =
    let stop : Stops (g.P.Port.events c.args.port.now) (Renamed c.args.lines.now ∷ Synced ∷ []) (g.P.Port.events c.replace.new.self) = search rules in
    on_err c.from_residual.result (stops_longer _ (Renamed c.args.lines.now ∷ Synced ∷ []) (Marked ∷ Replied c.args.ready.now ∷ Flushed ∷ []) _ stop)

pub returns-in_err-mark-clause-err : goal.returns-in_err-mark-clause-err
returns-in_err-mark-clause-err g c =
    let before : List Event = Renamed c.args.lines.now ∷ Synced ∷ [] in
    let so_far : g.P.Port.events c.replace.new.self ≡ g.P.Port.events c.args.port.now ++ before = search rules in
    let stop : Stops (g.P.Port.events c.replace.new.self) (Marked ∷ []) (g.P.Port.events c.mark.new.self) = search rules in
    on_err c.from_residual-in_err-mark.result (goes_on _ _ _ before (Marked ∷ []) (Replied c.args.ready.now ∷ Flushed ∷ []) _ refl so_far stop)

pub returns-clause-err : goal.returns-clause-err
returns-clause-err g c =
    let old : List Event = g.P.Port.events c.args.port.now in
    let before : List Event = Renamed c.args.lines.now ∷ Synced ∷ [] in
    let replaced : g.P.Port.events c.replace.new.self ≡ old ++ before = search rules in
    let marked : g.P.Port.events c.mark.new.self ≡ g.P.Port.events c.replace.new.self ++ Marked ∷ [] = search rules in
    let so_far : g.P.Port.events c.mark.new.self ≡ old ++ (before ++ Marked ∷ []) = marked ∙ ap (λ (l : List Event). l ++ Marked ∷ []) replaced ∙ append_assoc old before (Marked ∷ []) in
    on_err_weaker c.tell.result
    (λ stop. goes_on old _ _ (before ++ Marked ∷ []) (Replied c.args.ready.now ∷ Flushed ∷ []) [] _ refl so_far stop) c.tell.ensures.err
