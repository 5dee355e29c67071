-- The records that a reader has still to give.
use Rattle.std.specs.Prelude.{◌≡◌, ◌+◌, ℕ, true, false, List, [], length, Option, Some, None}
use Rattle.std.specs.Borrow.{Bor}
use Rattle.csv.specs.Machine.{ends_at_end}
use Rattle.csv.specs.Reading.{Ready, default_config, is_flexible, reader_config, reader_state, reader_trim, records_from, source_of}
use Rattle.csv.specs.declared.parser.State.{State}
use Rattle.csv.specs.declared.reader.Reader.{Reader}
use Rattle.csv.specs.declared.reader.Trim.TheVariants as trim

-- the bytes that a reader of a slice has not read
abbrev pub unread : Reader (Bor (List ℕ)) → Option (List ℕ)
unread reader = source_of (λ (s : Bor (List ℕ)). Some s.now) reader

-- the records of these bytes, read on from a state of csv's machine
unfoldable pub records_at : State → Option (List ℕ) → List (List (List ℕ))
records_at s None = []
records_at s (Some bytes) = records_from default_config (length bytes + 1) s bytes

-- the records that a reader has still to give
abbrev pub records_left : Reader (Bor (List ℕ)) → List (List (List ℕ))
records_left reader = records_at (reader_state reader) (unread reader)

-- a reader without headers, trimming or comments, which takes records of any length, stands between
-- two records, and its bytes are known
pub record IsBetweenRecords (reader : Reader (Bor (List ℕ))) : Type 0 where
  pub config : reader_config reader ≡ default_config
  pub trim : reader_trim reader ≡ trim.None
  pub flexible : is_flexible reader ≡ true
  pub ready : Ready reader
  pub state : ends_at_end (reader_state reader) ≡ false
  pub known : (bytes : List ℕ) × (unread reader ≡ Some bytes)
