use Rattle.std.{proofs.Common.{◌∙◌, ap}, specs.Prelude.bytes_eq, specs.List.find}
use Rattle.cdm_kinds.specs.Kinds.{kind_name, kind_named}
use Rattle.cdm_kinds.proofs.kind.Kind.named.Goals as goal

pub returns : goal.returns
unfolding kind_named
returns c = c.copied.ensures ∙ c.find_named.ensures ∙ ap (find (λ kind. bytes_eq (kind_name kind) c.args.text.now)) c.all.ensures
