use Rattle.std.{proofs.Common.{◌≡◌, ℕ, List, [], ◌∷◌}, specs.Prelude.codes}
use Rattle.json.specs.Json.{Json}
use Rattle.cdm_json.proofs.TokenLemmas.{line_written, ok_then, one_member}
use Rattle.cdm_kinds.specs.declared.format.Format.TheVariants as form
use Rattle.cdm_row.specs.Json.{count_json}
use Rattle.cdm_serve.specs.Served.{ready_text}
use Rattle.cdm_serve.proofs.starting.ready_line.Goals as goal

pub returns : goal.returns
returns c =
    let ready : List ℕ × Json = (codes "ready", count_json c.args.count) in
    ok_then _ (λ line. line.items ≡ ready_text form.Json c.args.count) c.end_line.result
    (λ line is. is (ready ∷ []) (line_written c.in_ok-writer.writer.tokens _ [] (ready ∷ []) c.in_ok-writer.ensures.tokens (one_member _ _ ready c.in_ok-push_count.ensures.tokens)))
    c.end_line.ensures.line
