use Rattle.std.{proofs.Common.{◌*◌, take}, specs.List.AllZip}
use Rattle.cdm_phase.specs.inner.Slots.{AreSlotsOf}
use Rattle.cdm_phase.proofs.assembly.assemble.Given as goal

abbrev pub invariant-loop-number : goal.invariant-loop-number
invariant-loop-number g l = record {
  slots : AreSlotsOf l.fn.pieces.items l.slot-items;
  outs : AllZip (g.J.Job.gives l.job) (take (l.number * l.grain) l.items) l.outs.items;
}
