use Rattle.std.proofs.Common.{◌≡◌, take}
use Rattle.cdm_view.{specs.Standings.changes, specs.Standings.flight_name, specs.Standings.is_same_told, proofs.PassedLemmas.StillHas}
use Rattle.cdm_view.proofs.standings.Standings.changes.Given as goal

-- the changes so far, and what is left of those told before
abbrev pub invariant-loop-standing : goal.invariant-loop-standing
invariant-loop-standing l =
    (l.changed.items ≡ changes l.day l.before (take l.standing-index l.standing-items)) × StillHas flight_name (is_same_told l.day) l.before l.told l.standing-items l.standing-index
