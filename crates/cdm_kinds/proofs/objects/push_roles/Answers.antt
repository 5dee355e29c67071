use Rattle.std.specs.Prelude.{codes}
use Rattle.json.specs.Token.{key}
use Rattle.cdm_kinds.proofs.TokenLemmas.{array_member, on-ok-then, words_end}
use Rattle.cdm_kinds.proofs.objects.push_roles.Goals as goal

pub returns-clause-tokens : goal.returns-clause-tokens
returns-clause-tokens c =
    on-ok-then c.end_array.result
    (array_member (key (codes "roles")) _ _ _ _ _ _ _ c.in_ok-key.ensures.ok c.in_ok-begin_array.ensures.ok c.in_ok-push_words.ensures.tokens (words_end c.args.roles.now))
    c.end_array.ensures.ok
