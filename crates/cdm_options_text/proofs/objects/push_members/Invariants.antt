use Rattle.std.{proofs.Common.{◌≡◌, ◌++◌, map, take}, specs.Prelude.flat_map}
use Rattle.cdm_row.specs.{Columns.value_of, Json.member_tokens}
use Rattle.cdm_options_text.specs.Objects.{member_of}
use Rattle.cdm_options_text.proofs.objects.push_members.Given as goal

abbrev pub invariant-loop-member : goal.invariant-loop-member
invariant-loop-member l = record {
  tokens : l.writer.tokens ≡ l.initial.writer.tokens ++ flat_map member_tokens (map (member_of l.day) (map (λ m. (m.0.now, value_of m.1)) (take l.member-index l.members)));
  before : l.writer.before ≡ l.initial.writer.before;
}
