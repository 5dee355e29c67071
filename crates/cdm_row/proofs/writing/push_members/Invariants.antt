use Rattle.std.{proofs.Common.◌≡◌, proofs.Common.◌++◌, proofs.Common.take, specs.Prelude.flat_map}
use Rattle.cdm_row.specs.Json.{member_tokens, row_members}
use Rattle.cdm_row.proofs.writing.push_members.Given as goal

abbrev pub invariant-loop-place : goal.invariant-loop-place
invariant-loop-place l = record {
  tokens : l.writer.tokens ≡ l.initial.writer.tokens ++ flat_map member_tokens (take l.place (row_members l.day l.fn.row));
  before : l.writer.before ≡ l.initial.writer.before;
}
