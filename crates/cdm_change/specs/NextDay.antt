-- What the next day knows, where it accepts all that is carried.
use Rattle.std.specs.Prelude.{List}
use Rattle.std.specs.List.{filter_map}
use Rattle.std.specs.Option.{option_map}
use Rattle.cdm_flight.specs.declared.flight.Flight.{Flight}
use Rattle.cdm_flight.specs.declared.flight.Status.{Status}
use Rattle.cdm_flight.specs.declared.flight.Status.TheVariants.{Planned, OffBlock, Airborne, Cancelled}
use Rattle.cdm_flight.specs.declared.update.Update.{Update}
use Rattle.cdm_carry.specs.Carry.{carried}
use Rattle.cdm_carry.specs.Laws.{next_minute}

-- its journal: each update of the day that goes on, in their order
abbrev pub next_journal : List Update → List Update
next_journal a = filter_map (carried a) a

-- how far a flight has come, with its minutes as the next day has them
abbrev pub next_status : Status → Status
next_status Planned = Planned
next_status (OffBlock aobt exot) = OffBlock (next_minute aobt) exot
next_status (Airborne aobt atot) = Airborne (next_minute aobt) (next_minute atot)
next_status Cancelled = Cancelled

-- a flight, with its minutes as the next day has them
abbrev pub next_flight : Flight → Flight
next_flight f = record f { tobt = option_map next_minute f.tobt; ctot = option_map next_minute f.ctot; status = next_status f.status }
