use Rattle.std.proofs.Common.{◌≡◌, ◌≤◌, ◌+◌, ◌++◌, drop, length}
use Rattle.cdm_files.specs.Refused.{refused_by_replies}
use Rattle.cdm_files.proofs.refused.refusals_of.Given as goal

abbrev pub invariant-loop-own : goal.invariant-loop-own
invariant-loop-own l = record {
  number : l.number ≡ l.before + l.own-index;
  all : refused_by_replies (l.before + 1) l.words l.replies
      ≡ l.refused.items ++ refused_by_replies (l.number + 1) (drop l.own-index l.words) l.left;
  few : length l.refused.items ≤ l.own-index;
}
