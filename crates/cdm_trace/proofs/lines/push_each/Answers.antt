use Rattle.std.{proofs.Common.{◌∙◌, ◌++◌, ap, arith, map}, specs.Prelude.flat_map}
use Rattle.csv.specs.Records.{fields_of}
use Rattle.json.specs.Tree.{json_tokens}
use Rattle.cdm_plan.proofs.NameLemmas.{all_taken}
use Rattle.cdm_trace.{specs.Traces.field_json, proofs.LineLemmas.fields_next}
use Rattle.cdm_trace.proofs.lines.push_each.Goals as goal

pub loop-place-preserved : goal.loop-place-preserved
loop-place-preserved c =
    let next = rw c.field_at.ensures at c.in_ok-push_field.ensures.tokens in
    record {
      tokens = fields_next (fields_of c.args.row.now) c.loop-place.place c.args.writer.now.tokens c.loop-place.writer.tokens c.push_field.new.writer.tokens
          (omega arith) c.loop-place.invariant.tokens next;
      before = c.in_ok-push_field.ensures.before ∙ c.loop-place.invariant.before;
    }

pub returns-clause-tokens : goal.returns-clause-tokens
returns-clause-tokens c =
    c.loop-place.invariant.tokens
    ∙ ap (λ fs. c.args.writer.now.tokens ++ flat_map json_tokens (map field_json fs))
    (all_taken (fields_of c.args.row.now) c.loop-place.place (omega arith))
