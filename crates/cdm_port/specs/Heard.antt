-- What the input says next.
use Rattle.std.specs.Prelude.{◌≢◌, ◌≤◌, ◌==◌, ⊤, ℕ, List, [], ◌∷◌, length, nat_le, Option, None, Some, option_map, if◌then◌else◌}
use Rattle.std.specs.List.{AllByRecursion}
use Rattle.cdm_port.specs.Event.{Event, line_limit}
use Rattle.cdm_port.specs.Event.Event.{Line as LineRead, Broken as BrokenRead, End as Ended}
use Rattle.cdm_port.specs.declared.heard.Heard.{Heard}
use Rattle.cdm_port.specs.declared.heard.Heard.TheVariants.{Line, Broken, End}

-- what happened where this was read
abbrev pub event_of : Heard → Event
event_of (Line bytes) = LineRead bytes.items
event_of Broken = BrokenRead
event_of End = Ended

-- no LF is in a line, and it isn't too long
abbrev pub IsLine : List ℕ → Type 0
IsLine bytes = (length bytes ≤ line_limit) × AllByRecursion (λ byte. byte ≢ 10) bytes

-- a line is one
abbrev pub IsHeard : Heard → Type 0
IsHeard (Line bytes) = IsLine bytes.items
IsHeard Broken = ⊤
IsHeard End = ⊤

-- the line that bytes begin with, without the LF that ends it
unfoldable pub first_line : List ℕ → Option (List ℕ)
first_line [] = None
first_line (byte ∷ bytes) = if byte == 10 then Some [] else option_map (λ line. byte ∷ line) (first_line bytes)

-- a line is heard where it isn't too long and an LF ends it
abbrev pub heard_as : Option (List ℕ) → Event
heard_as None = BrokenRead
heard_as (Some line) = if nat_le (length line) line_limit then LineRead line else BrokenRead

-- what is heard where the input has these bytes left
abbrev pub heard_in : List ℕ → Event
heard_in [] = Ended
heard_in (byte ∷ bytes) = heard_as (first_line (byte ∷ bytes))
