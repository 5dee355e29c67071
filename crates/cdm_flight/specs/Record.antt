-- What contracts say of a flight's record.
use Rattle.std.specs.Prelude.{ℕ, ◌+◌, Bool, true, false, ◌&&◌, nat_le, List, Option, None, is_some}
use Rattle.std.specs.Option.{option_map}
use Rattle.cdm_flight.specs.declared.group.Group.TheVariants.{Medium}
use Rattle.cdm_flight.specs.declared.ice.Ice.TheVariants.{NoIce}
use Rattle.cdm_flight.specs.declared.flight.Flight.{Flight}
use Rattle.cdm_flight.specs.declared.flight.Status.{Status}
use Rattle.cdm_flight.specs.declared.flight.Status.TheVariants.{Planned, OffBlock, Airborne, Cancelled}
use Rattle.cdm_flight.specs.declared.key.Key.{Key}

-- off-block or airborne it has a runway, it takes off within the horizon, and not before it left
abbrev pub is_sound : Option (List ℕ) → Status → Bool
is_sound runway Planned = true
is_sound runway (OffBlock aobt exot) = is_some runway && nat_le (aobt + exot) 2879
is_sound runway (Airborne aobt atot) = is_some runway && nat_le aobt atot
is_sound runway Cancelled = true

-- a planned flight of which nothing is known but its name and priority
abbrev pub fresh : List ℕ → ℕ → Flight
fresh name priority = record {
  name = name;
  priority = priority;
  tobt = None;
  stand = None;
  runway = None;
  ctot = None;
  ice = NoIce;
  group = Medium;
  status = Planned;
}

-- the flight is on its stand
abbrev pub is_planned : Status → Bool
is_planned Planned = true
is_planned _ = false

-- what the order of sequence compares, if the flight has a TOBT
abbrev pub key_of : Flight → Option Key
key_of f = option_map (λ tobt. record { priority = f.priority; tobt = tobt; name = f.name }) f.tobt
