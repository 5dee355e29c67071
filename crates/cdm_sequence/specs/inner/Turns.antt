-- Decisions one after another, each with the minutes that the earlier ones took.
use Rattle.std.specs.Prelude.{ℕ, List, [], ◌∷◌, ◌++◌, Option, Some, None, Result, Ok, Err, ⊤}
use Rattle.std.specs.Option.{option_map, option_to_list}
use Rattle.cdm_runway.specs.Rules.{RunwayRules}
use Rattle.cdm_runway.specs.Room.{taken_by, Gives}
use Rattle.cdm_runway.specs.declared.load.Taken.{Taken}
use Rattle.cdm_runway.specs.declared.load.Blocked.{Blocked}
use Rattle.cdm_sequence.specs.declared.target.Target.{Target}
use Rattle.cdm_sequence.specs.Words.{rule_for}
use Rattle.cdm_sequence.specs.declared.decision.Decision.{Decision}
use Rattle.cdm_sequence.specs.declared.slot.BlockedFlight.{BlockedFlight}

-- the minute, if there is one
abbrev pub placed_at : Result ℕ Blocked → Option ℕ
placed_at (Ok m) = Some m
placed_at (Err reason) = None

-- what the flight took, if it got a minute
abbrev pub taken_in : RunwayRules → Decision → Option Taken
taken_in r d = option_map (taken_by r d.target.group) (placed_at d.outcome)

-- a flight that got none
abbrev pub blocked_from : Target → Result ℕ Blocked → Option BlockedFlight
blocked_from f (Ok m) = None
blocked_from f (Err reason) = Some (record { name = f.key.name; rule = rule_for reason })

-- the runway gives the flight that, where these are taken
abbrev pub IsDecided : RunwayRules → List Taken → Decision → Type 0
IsDecided r taken d = Gives r taken d.target.group d.target.window.start d.target.window.end d.outcome

-- and so one after another
abbrev pub AreDecided : RunwayRules → List Taken → List Decision → Type 0
AreDecided r taken [] = ⊤
AreDecided r taken (d ∷ ds) = IsDecided r taken d × AreDecided r (taken ++ option_to_list (taken_in r d)) ds
