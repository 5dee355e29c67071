use Rattle.std.{proofs.Common.{◌++◌, ℕ, List, [], ◌∷◌}, proofs.lemmas.Result.IfOk-weaker, specs.Prelude.codes}
use Rattle.csv.specs.Records.{fields_of}
use Rattle.json.specs.Json.{Json}
use Rattle.cdm_json.proofs.TokenLemmas.{line_written, named_member, one_member}
use Rattle.cdm_row.specs.Json.{row_json}
use Rattle.cdm_trace.specs.Traces.{record_members}
use Rattle.cdm_trace.proofs.lines.moved_line.Goals as goal

pub returns : goal.returns
returns c =
    let members = record_members c.args.number (fields_of c.args.row.now) in
    let row : List ℕ × Json = (codes "row", row_json c.args.day c.args.changed.now) in
    let first = line_written _ _ [] members c.in_ok-writer.ensures.tokens c.in_ok-push_record.ensures.tokens in
    let last = one_member _ _ row (named_member _ _ _ row.0 row.1 c.in_ok-key.ensures.ok c.in_ok-push_row.ensures.tokens) in
    IfOk-weaker c.end_line.result _ _ (λ text is. is (members ++ row ∷ []) (line_written _ _ members (row ∷ []) first last)) c.end_line.ensures.line
