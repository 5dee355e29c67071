-- What each fault of a live run says.
use Rattle.std.specs.Prelude.{◌≡◌, ◌≤◌, ◌<◌, ◌+◌, ℕ, Bool, true, false, List, length, Result, Ok, Err}
use Rattle.cdm_flight.specs.Journal.{AirportRows}
use Rattle.cdm_files.specs.AirportFile.{airport_in}
use Rattle.cdm_files.specs.CommonFaults.{IsFirstCommonFault}
use Rattle.cdm_files.specs.Readings.{AreRead, IfTold, Reading}
use Rattle.cdm_files.specs.declared.common_fault.CommonFault.TheVariants as common
use Rattle.cdm_files.specs.FeedDay.{spelled_in}
use Rattle.cdm_files.specs.Refused.{updates_in}
use Rattle.cdm_live.specs.Live.{batch_count}
use Rattle.cdm_live.specs.declared.live_error.LiveError.{LiveError}
use Rattle.cdm_live.specs.declared.live_error.LiveError.TheVariants as error

-- how many calls two desks need for their feeds: a post of each batch, and a look
abbrev pub calls_needed : ℕ → ℕ → ℕ
calls_needed updates1 updates2 = batch_count updates1 + 1 + (batch_count updates2 + 1)

-- how many updates a feed spells for an airport
abbrev pub updates_count : AirportRows → List ℕ → ℕ
updates_count g feed = length (updates_in (spelled_in g feed))

-- the airport file is accepted, and a board takes the calls that the feeds need
abbrev pub FitsBoard : List ℕ → List ℕ → List ℕ → Type 0
FitsBoard airport feed1 feed2 =
    (g : AirportRows) × (airport_in airport ≡ Ok g)
    × (calls_needed (updates_count g feed1) (updates_count g feed2) ≤ 4096)

-- the airport file is accepted, and the feeds need more calls than a board takes
abbrev pub FillsBoard : List ℕ → List ℕ → List ℕ → Type 0
FillsBoard airport feed1 feed2 =
    (g : AirportRows) × (airport_in airport ≡ Ok g)
    × (4096 < calls_needed (updates_count g feed1) (updates_count g feed2))

-- the first fault of a live run: after the records of the airport file are asked, the calls are counted, and then the
-- desks run. Of a mismatch it says only that all was read and that a board takes the calls.
abbrev pub IsFirstFault : Reading → Reading → Reading → LiveError → Type 0
IsFirstFault a f s (error.Common fault) = IsFirstCommonFault a f s (IfTold a.before f.before s.before FitsBoard) fault
IsFirstFault a f s error.HistoryFull = AreRead a f s × IfTold a.before f.before s.before FillsBoard
IsFirstFault a f s error.Mismatch = AreRead a f s × IfTold a.before f.before s.before FitsBoard

-- the writer failed
abbrev pub is_write_fault : {T : Type 0} → Result T LiveError → Bool
is_write_fault (Err (error.Common common.Write)) = true
is_write_fault r = false
