use Rattle.std.proofs.Common.{drop}
use Rattle.cdm_day.proofs.{DayWords.{DayRecord, IsSince}, BatchLemmas.SoFar}
use Rattle.cdm_day.proofs.draft.Draft.apply.Given as goal

abbrev pub invariant-loop-role : goal.invariant-loop-role
invariant-loop-role l = record {
  so_far : SoFar l.fn.self.tables l.batch l.self.tables l.replies.items (drop l.role-index l.batch);
  since : (first : DayRecord) → IsSince first l.fn.self.touched l.fn.self.tables → IsSince first l.self.touched l.self.tables;
}
