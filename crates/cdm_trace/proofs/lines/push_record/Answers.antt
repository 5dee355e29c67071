use Rattle.std.{proofs.Common.{ℕ, List, [], ◌∷◌, map}, proofs.lemmas.Result.on_ok_weaker, specs.Prelude.codes}
use Rattle.csv.specs.Records.{fields_of}
use Rattle.json.specs.Json.{Json}
use Rattle.cdm_json.proofs.TokenLemmas.{array_member, more_parts, one_member}
use Rattle.cdm_row.specs.Json.{array_of, count_json}
use Rattle.cdm_trace.specs.Traces.{field_json}
use Rattle.cdm_trace.proofs.lines.push_record.Goals as goal

pub returns-clause-tokens : goal.returns-clause-tokens
returns-clause-tokens c =
    let old = c.args.writer.now.tokens in
    let number : List ℕ × Json = (codes "record", count_json c.args.number) in
    let js = map field_json (fields_of c.args.row.now) in
    let one = one_member old _ number (rw c.from.ensures at c.in_ok-push_count.ensures.tokens) in
    on_ok_weaker c.end_array.result (λ last.
    more_parts old _ _ (number ∷ []) ((codes "fields", array_of js) ∷ []) one
    (array_member _ _ _ _ _ (codes "fields") js c.in_ok-key.ensures.ok c.in_ok-begin_array.ensures.ok c.in_ok-push_each.ensures.tokens last))
    c.end_array.ensures.ok
