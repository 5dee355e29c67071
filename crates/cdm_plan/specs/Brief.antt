-- A flight in brief: what planning asks before it reads the flight's record.
use Rattle.std.specs.Prelude.{ℕ, Bool, ◌||◌, not, is_some, List, Option, None, if◌then◌else◌}
use Rattle.cdm_flight.specs.Record.{is_planned}
use Rattle.cdm_flight.specs.declared.flight.Flight.{Flight}
use Rattle.cdm_sequence.specs.Aims.{TaxiTimes, own_exot}
use Rattle.cdm_plan.specs.declared.brief.Brief.{Brief}

-- the flight counts on its runway: it has left its stand, or it has a TOBT
abbrev pub counts : Flight → Bool
counts f = not (is_planned f.status) || is_some f.tobt

-- the runway on which it counts
abbrev pub counted_on : Flight → Option (List ℕ)
counted_on f = if counts f then f.runway else None

-- with the taxi-out time to its runway
abbrev pub brief_of : TaxiTimes → Flight → Brief
brief_of times f = record { runway = counted_on f; exot = own_exot times f }
