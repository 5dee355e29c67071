use Rattle.std.specs.Prelude.{codes}
use Rattle.json.specs.Token.{key}
use Rattle.cdm_kinds.proofs.TokenLemmas.{array_member, fields_end, on-ok-then}
use Rattle.cdm_kinds.proofs.objects.push_fields.Goals as goal

pub returns-clause-tokens : goal.returns-clause-tokens
returns-clause-tokens c =
    on-ok-then c.end_array.result
    (array_member (key (codes "fields")) _ _ _ _ _ _ _ c.in_ok-key.ensures.ok c.in_ok-begin_array.ensures.ok c.in_ok-push_each.ensures.tokens (fields_end c.args.fields.now))
    c.end_array.ensures.ok
