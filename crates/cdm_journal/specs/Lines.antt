-- What a line of the input says.
use Rattle.std.specs.Prelude.{ℕ, List, [], ◌∷◌}
use Rattle.csv.specs.Records.{fields_of}
use Rattle.cdm_files.specs.Records.{records_of}
use Rattle.cdm_journal.specs.declared.lines.LineRead.{LineRead}
use Rattle.cdm_journal.specs.declared.lines.LineRead.TheVariants as read

-- no record, one record by its fields, or several, as a carriage return may part them
pub data LineRecord : Type 0 where
  Blank : LineRecord
  One : List (List ℕ) → LineRecord
  Several : LineRecord

-- which of these the records of a line are
abbrev pub record_among : List (List (List ℕ)) → LineRecord
record_among [] = Blank
record_among (fields ∷ []) = One fields
record_among (fields ∷ next ∷ later) = Several

-- what a line says, read for itself by the grammar of records: an open quote ends with its line
unfoldable pub line_record : List ℕ → LineRecord
line_record line = record_among (records_of line)

-- what was read of a line
abbrev pub read_as : LineRead → LineRecord
read_as read.Blank = Blank
read_as (read.One row) = One (fields_of row)
read_as read.Several = Several
