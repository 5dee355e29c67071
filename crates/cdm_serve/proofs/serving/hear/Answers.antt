use Rattle.std.proofs.Common.{◌≡◌, ◌++◌, [], ◌∷◌, inr, ℕ, List, Some, refl, rules}
use Rattle.cdm_port.specs.{Event.Event.Line, Heard.IsLine}
use Rattle.cdm_serve.specs.{Taken.record_heard, inner.Steps.HearsInVain}
use Rattle.cdm_serve.proofs.serving.hear.Goals as goal

-- a line was heard, and can't be read
pub returns-in_err-read-in-Line-clause-err : goal.returns-in_err-read-in-Line-clause-err
returns-in_err-read-in-Line-clause-err g c =
    let line : List ℕ = c.in-Line.bytes.items in
    let is : IsLine line = search rules in
    let one : g.P.Port.events c.line.new.self ≡ g.P.Port.events c.args.port.now ++ Line line ∷ [] = search rules in
    let vain : HearsInVain (g.P.Port.events c.args.port.now) (g.P.Port.events c.line.new.self) = inr (record_heard (Some line), (Some line, is, refl, one)) in
    search rules

-- a line was heard and read
pub returns-in_ok-read-in-Line-clause-ok : goal.returns-in_ok-read-in-Line-clause-ok
returns-in_ok-read-in-Line-clause-ok g c =
    let line : List ℕ = c.in-Line.bytes.items in
    let is : IsLine line = search rules in
    let one : g.P.Port.events c.line.new.self ≡ g.P.Port.events c.args.port.now ++ Line line ∷ [] = search rules in
    (Some line, is, search rules, one)
