use Rattle.std.proofs.Common.{append_assoc}
use Rattle.cdm_table.specs.Comparison.{change_lines}
use Rattle.cdm_table.proofs.comparison.push_change.Goals as goal

pub returns : goal.returns
unfolding change_lines
returns c =
    let own = rw c.flight.ensures at c.of_flight.ensures in
    rw (c.in_ok-push_before.ensures, own, append_assoc _ _ _) at c.push_marked.ensures
