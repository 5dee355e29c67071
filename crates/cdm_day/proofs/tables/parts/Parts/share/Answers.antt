use Rattle.std.proofs.Common.{refl, ap}
use Rattle.cdm_day.proofs.tables.parts.Parts.share.Goals as goal

pub returns : goal.returns
returns c = record {
  flights = ap (λ m. m.entries) c.in_ok-try_clone.ensures;
  runways = ap (λ v. v.items) c.in_ok-try_clone-2.ensures;
  taxi = c.in_ok-try_clone-3.ensures;
  values = refl;
  briefs = λ kept. rw (c.in_ok-try_clone.ensures, c.in_ok-try_clone-3.ensures) (c.in_ok-shared_briefs.ensures _ kept);
}
