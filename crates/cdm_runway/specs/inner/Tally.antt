-- How a load keeps what was taken.
use Rattle.std.specs.Prelude.{◌≡◌, ℕ, ◌+◌, ◌<◌, ◌≤◌, ◌/◌, ◌==◌, List, All, Contains, count_by, length, map, slice_index, IsTrue}
use Rattle.cdm_flight.specs.Cells.{is_cell_length}
use Rattle.cdm_runway.specs.declared.load.Taken.{Taken}

-- the counts have, at each cell, how many of the taken minutes lie in it
abbrev pub IsTally : ℕ → List Taken → List ℕ → Type 0
IsTally cell taken counts = (k : ℕ) → k < 2880 → slice_index counts k ≡ count_by (λ t. t.minute / cell == k) taken

-- the longest occupancy from each minute on, of those that were taken
pub record AreLongest (taken : List Taken) (longest : List ℕ) : Type 0 where
  pub minutes : length longest ≡ 2880
  pub within : All (λ t. (t.minute < 2880) × (t.occupancy ≤ 5)) taken
  pub covers : All (λ t. t.occupancy ≤ slice_index longest t.minute) taken
  pub some : (k : ℕ) → k < 2880 → 0 < slice_index longest k → Contains taken (record { minute = k; occupancy = slice_index longest k })

-- what was noted as taken; its notes have no bytes
abbrev pub noted : List (Taken × List ℕ) → List Taken
noted notes = map (λ note. note.0) notes

-- at most 2,000 are taken, counted by cell, and told by their minutes
pub record AreCounted (cell : ℕ) (taken : List Taken) (counts longest : List ℕ) : Type 0 where
  pub cell_length : IsTrue (is_cell_length cell)
  pub within : length taken ≤ 2000
  pub tally : IsTally cell taken counts
  pub kept : AreLongest taken longest

-- no occupancy of those from `first` up to `end` reaches beyond the minute
abbrev pub EndsBy : List ℕ → ℕ → ℕ → ℕ → Type 0
EndsBy longest minute first end = (k : ℕ) → first ≤ k → k < end → 0 < slice_index longest k → k + slice_index longest k ≤ minute

-- one that begins before `last` ends at `end`, after the minute
pub record IsReach (longest : List ℕ) (minute last end : ℕ) : Type 0 where
  pub start : ℕ
  pub before : start < last
  pub some : 0 < slice_index longest start
  pub ends : end ≡ start + slice_index longest start
  pub after : minute < end
