use Rattle.std.proofs.Common.{length}
use Rattle.cdm_files.proofs.StretchLemmas.{IsLeft}
use Rattle.cdm_files.proofs.judging.judge.Given as goal

abbrev pub invariant-stretches : goal.invariant-stretches
invariant-stretches over l = IsLeft l.fn.airport l.day l.fn.feed l.judged.state l.judged.refused.items l.judged.records l.reader

abbrev pub decreases-stretches : goal.decreases-stretches
decreases-stretches over l = length l.reader
