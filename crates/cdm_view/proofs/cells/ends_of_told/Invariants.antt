use Rattle.cdm_view.specs.{Load.tells, inner.Ends.AreEnds}
use Rattle.cdm_view.proofs.cells.ends_of_told.Given as goal

-- the ends among the cells so far
abbrev pub invariant-loop-cell : goal.invariant-loop-cell
invariant-loop-cell l = AreEnds (tells l.runway l.usual l.slots) l.cell l.from l.to
