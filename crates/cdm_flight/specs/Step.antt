-- One update of one flight.
use Rattle.std.specs.Prelude.{ℕ, ◌+◌, Bool, true, false, nat_lt, if◌then◌else◌, List, Option, None, Some, Result, Ok, Err}
use Rattle.cdm_flight.specs.declared.flight.Status.{Status}
use Rattle.cdm_flight.specs.declared.flight.Status.TheVariants.{Planned, OffBlock, Airborne, Cancelled}
use Rattle.cdm_flight.specs.declared.update.Update.{Update}
use Rattle.cdm_flight.specs.declared.update.Update.TheVariants.{Flt, Tobt, Stand, Rwy, Ctot, Ice, Prio, Group, Off, Air, Cnl}
use Rattle.cdm_flight.specs.declared.word.RefusalWord.{RefusalWord}
use Rattle.cdm_flight.specs.declared.word.RefusalWord.TheVariants.{Ended, OffBlock as OffBlockWord, Order, NotReady}
use Rattle.cdm_flight.specs.declared.flight.Flight.{Flight}

-- it makes a flight known
abbrev pub is_fresh : Update → Bool
is_fresh (Flt f p) = true
is_fresh _ = false

-- the first word with which a flight of this status and runway refuses an update: it has ended, or left its
-- stand; AIR of one that hasn't left, or before it left; OFF without a runway or a taxi-out time, or with a
-- take-off past the horizon
abbrev pub step_refusal : Status → Option (List ℕ) → Update → Option ℕ → Option RefusalWord
step_refusal Cancelled runway u exot = Some Ended
step_refusal (Airborne aobt atot) runway u exot = Some Ended
step_refusal (OffBlock aobt taxi) runway (Air f atot) exot = if nat_lt atot aobt then Some Order else None
step_refusal (OffBlock aobt taxi) runway u exot = Some OffBlockWord
step_refusal Planned runway (Air f atot) exot = Some Order
step_refusal Planned (Some runway) (Off f aobt) (Some exot) = if nat_lt 2879 (aobt + exot) then Some NotReady else None
step_refusal Planned runway (Off f aobt) exot = Some NotReady
step_refusal Planned runway u exot = None

abbrev pub off_block_from : ℕ → Option ℕ → Status
off_block_from aobt (Some exot) = OffBlock aobt exot
off_block_from aobt None = Planned

abbrev pub airborne_at : Status → ℕ → Status
airborne_at (OffBlock aobt exot) atot = Airborne aobt atot
airborne_at status atot = status

-- the record with the update's value
abbrev pub stepped : Flight → Update → Option ℕ → Flight
stepped r (Tobt f t) exot = record r { tobt = Some t }
stepped r (Stand f s) exot = record r { stand = Some s }
stepped r (Rwy f runway) exot = record r { runway = Some runway }
stepped r (Ctot f c) exot = record r { ctot = c }
stepped r (Ice f i) exot = record r { ice = i }
stepped r (Prio f p) exot = record r { priority = p }
stepped r (Group f w) exot = record r { group = w }
stepped r (Off f aobt) exot = record r { status = off_block_from aobt exot }
stepped r (Air f atot) exot = record r { status = airborne_at r.status atot }
stepped r (Cnl f) exot = record r { status = Cancelled }
stepped r _ exot = r

abbrev pub or_refused : Flight → Option RefusalWord → Result Flight RefusalWord
or_refused r None = Ok r
or_refused r (Some word) = Err word

abbrev pub step_of : Flight → Update → Option ℕ → Result Flight RefusalWord
step_of r u exot = or_refused (stepped r u exot) (step_refusal r.status r.runway u exot)
