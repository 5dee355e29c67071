use Rattle.std.{proofs.Common.◌≡◌, specs.Prelude.flat_map, specs.List.range_with_len}
use Rattle.cdm_options.specs.Helping.{helping_at}
use Rattle.cdm_options.proofs.helping.all_helping.Given as goal

abbrev pub invariant-loop-place : goal.invariant-loop-place
invariant-loop-place l = l.found.items ≡ flat_map (helping_at l.before l.updates l.effects) (range_with_len 0 l.place)
