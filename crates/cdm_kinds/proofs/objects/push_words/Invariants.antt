use Rattle.std.proofs.Common.{◌≡◌, ◌++◌, map, take}
use Rattle.json.specs.Token.{string}
use Rattle.cdm_kinds.specs.Words.{role_name}
use Rattle.cdm_kinds.proofs.objects.push_words.Given as goal

abbrev pub invariant-loop-role : goal.invariant-loop-role
invariant-loop-role l = record {
  tokens : l.writer.tokens ≡ l.initial.writer.tokens ++ map (λ role. string (role_name role)) (take l.role-index l.roles);
  before : l.writer.before ≡ l.initial.writer.before;
}
