use Rattle.std.proofs.{Common.{◌≡◌, ◌∙◌, ◌++◌, [], ◌∷◌, List, ℕ, ap, append_assoc, rules}, lemmas.Result.on_err_weaker}
use Rattle.cdm_port.{specs.Event.Event, specs.Event.Event.{Appended, Flushed, Replied, Synced}, proofs.Stops.goes_on}
use Rattle.cdm_serve.specs.inner.Steps.{events_of}
use Rattle.cdm_serve.proofs.performing.perform.Goals as goal

-- the line is on the disk, and the reply stopped
pub returns-in_ok-sync-in-Record-clause-err : goal.returns-in_ok-sync-in-Record-clause-err
returns-in_ok-sync-in-Record-clause-err g c =
    let old : List Event = g.P.Port.events c.args.port.now in
    let line : List ℕ = c.in-Record.line.items in
    let text : List ℕ = c.deref-in-Record-2.result.now in
    let whole : events_of c.args.answer.now ≡ Appended line ∷ Synced ∷ Replied text ∷ Flushed ∷ [] = search rules in
    let written : g.P.Port.events c.append.new.self ≡ old ++ Appended line ∷ [] = search rules in
    let synced : g.P.Port.events c.sync.new.self ≡ g.P.Port.events c.append.new.self ++ Synced ∷ [] = search rules in
    let so_far : g.P.Port.events c.sync.new.self ≡ old ++ Appended line ∷ Synced ∷ [] = synced ∙ ap (λ (l : List Event). l ++ Synced ∷ []) written
    ∙ append_assoc old (Appended line ∷ []) (Synced ∷ []) in
    on_err_weaker c.tell-in-Record.result
    (λ stop. goes_on old _ _ (Appended line ∷ Synced ∷ []) (Replied text ∷ Flushed ∷ []) [] _ whole so_far stop) c.tell-in-Record.ensures.err
