-- What a check finds: the records of its files that are refused.
use Rattle.std.specs.Prelude.{ℕ, Bool, ◌&&◌, nat_le, List, [], ◌∷◌, ◌++◌, length, map, is_none, is_ok, Result, Ok, Err, if◌then◌else◌}
use Rattle.std.specs.List.{list_all}
use Rattle.cdm_flight.specs.Journal.{AirportRows}
use Rattle.cdm_flight.specs.declared.word.RefusalWord.{RefusalWord}
use Rattle.cdm_files.specs.AirportFile.{airport_in}
use Rattle.cdm_files.specs.FeedDay.{refusals_in}
use Rattle.cdm_files.specs.Fields.{field}
use Rattle.cdm_files.specs.Records.{records_of}
use Rattle.cdm_files.specs.Roles.{role_of}
use Rattle.cdm_files.specs.ScenarioFile.{scenarios_in}

-- a file: its path as it is told, and its bytes
pub record File : Type 0 where
  pub path : List ℕ
  pub bytes : List ℕ

-- a refused record of the file of this path: its number, from 1, and the word that refuses it
pub record Finding : Type 0 where
  pub path : List ℕ
  pub number : ℕ
  pub word : RefusalWord

abbrev pub finding : List ℕ → (ℕ × RefusalWord) → Finding
finding path refusal = record { path = path; number = refusal.0; word = refusal.1 }

-- the first faulty record of a file, if it has one
abbrev pub fault_at : {S : Type 0} → List ℕ → Result S (ℕ × RefusalWord) → List Finding
fault_at path (Ok said) = []
fault_at path (Err fault) = finding path fault ∷ []

-- where the airport file makes no airport, its fault alone; else the refused records of the feed, and then the first
-- faulty record of the scenario file
abbrev pub findings_at : Result AirportRows (ℕ × RefusalWord) → File → File → File → List Finding
findings_at (Err fault) a f s = finding a.path fault ∷ []
findings_at (Ok g) a f s = map (finding f.path) (refusals_in g f.bytes) ++ fault_at s.path (scenarios_in g.day s.bytes)

-- what a check of an airport file, a feed and a scenario file finds
unfoldable pub findings_in : File → File → File → List Finding
findings_in a f s = findings_at (airport_in a.bytes) a f s

-- a record that doesn't begin with a role
abbrev pub has_no_role : List (List ℕ) → Bool
has_no_role fields = is_none (role_of (field fields 0))

-- a file that is no feed: it has two records or more, and none of them begins with a role
unfoldable pub is_no_feed : List ℕ → Bool
is_no_feed bytes = nat_le 2 (length (records_of bytes)) && list_all has_no_role (records_of bytes)

-- whether one hint stands for all records of the feed: it is none, and the airport file makes an airport
abbrev pub is_stood_for : File → File → Bool
is_stood_for a f = is_ok (airport_in a.bytes) && is_no_feed f.bytes

-- the refused records of a feed that are told one by one: none where one hint stands for them
abbrev pub listed : List ℕ → List (ℕ × RefusalWord) → List (ℕ × RefusalWord)
listed bytes refused = if is_no_feed bytes then [] else refused

-- the findings that are told one by one
abbrev pub told_at : Result AirportRows (ℕ × RefusalWord) → File → File → File → List Finding
told_at (Err fault) a f s = finding a.path fault ∷ []
told_at (Ok g) a f s = map (finding f.path) (listed f.bytes (refusals_in g f.bytes)) ++ fault_at s.path (scenarios_in g.day s.bytes)

unfoldable pub told_in : File → File → File → List Finding
told_in a f s = told_at (airport_in a.bytes) a f s
