use Rattle.std.proofs.Common.{◌≡◌, take}
use Rattle.std.specs.Prelude.{flat_map}
use Rattle.cdm_options.specs.Tried.{opened}
use Rattle.cdm_options.proofs.tried.openings.Given as goal

abbrev pub invariant-loop-run : goal.invariant-loop-run
invariant-loop-run l = l.found.items ≡ flat_map (opened l.runway) (take l.run-index l.runs)
