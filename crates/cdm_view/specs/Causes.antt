-- What holds a planned flight apart from the clock, minute by minute.
use Rattle.std.specs.Prelude.{ℕ, ◌+◌, ◌==◌, Bool, true, false, not, nat_le, nat_lt, if◌then◌else◌, length, Option, None, Some}
use Rattle.std.specs.Option.{option_map_or}
use Rattle.cdm_time.specs.Windows.{is_in_tolerance}
use Rattle.cdm_flight.specs.Taxi.{stand_minutes}
use Rattle.cdm_runway.specs.Room.{cap_at, is_closed}
use Rattle.cdm_view.specs.declared.cause.Cause.{Cause}
use Rattle.cdm_view.specs.declared.cause.Cause.TheVariants.{Ice, Ctot, Closure, Spacing, Rate, Now}
use Rattle.cdm_view.specs.Reasons.{Waiting, held_at, met_at}

-- what holds the flight at the minute: as the reason, but the clock is asked last
unfoldable pub cause_at : Waiting → ℕ → Option Cause
cause_at w m =
    if nat_lt m (w.tobt + stand_minutes w.flight.ice + w.exot) then Some Ice
    else if not (option_map_or (λ c. is_in_tolerance w.values.tolerance c m) w.flight.ctot true) then Some Ctot
    else if is_closed w.rules m then Some Closure
    else if not (length (met_at w m) == 0) then Some Spacing
    else if nat_le (cap_at w.rules m) (length (held_at w m)) then Some Rate
    else if nat_lt m (w.values.clock + w.exot) then Some Now
    else None

-- the two are the same
abbrev pub same_cause : Cause → Cause → Bool
same_cause Ice Ice = true
same_cause Ctot Ctot = true
same_cause Closure Closure = true
same_cause Spacing Spacing = true
same_cause Rate Rate = true
same_cause Now Now = true
same_cause _ _ = false
