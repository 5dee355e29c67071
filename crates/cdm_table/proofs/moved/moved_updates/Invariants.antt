use Rattle.std.proofs.Common.{◌≡◌, [], Ok, take}
use Rattle.std.specs.List.{fold}
use Rattle.cdm_table.specs.Moved.{first_of, with_moved}
use Rattle.cdm_table.proofs.moved.moved_updates.Given as goal

abbrev pub invariant-loop-update : goal.invariant-loop-update
invariant-loop-update l = fold (with_moved (first_of l.updates) l.fn.at) (Ok []) (take l.update-index l.updates) ≡ Ok l.done.items
