-- The journal of a served day: its accepted records, one a line. A journal is a feed.
use Rattle.std.specs.Prelude.{◌==◌, ℕ, Bool, List, [], ◌∷◌, if◌then◌else◌}
use Rattle.std.specs.List.{flat_map, join_with_byte, list_any}
use Rattle.csv.specs.Machine.{line_feed}
use Rattle.csv.specs.Writing.{comma, default_writer, row_text}

-- Records as they are written.

-- the fields of a record, with a comma between each two
unfoldable pub record_text : List (List ℕ) → List ℕ
record_text fields = join_with_byte comma fields

-- a record's line as csv writes it: the same, with quotes round a field that needs them, and a line feed
unfoldable pub journal_line : List (List ℕ) → List ℕ
journal_line fields = row_text default_writer fields

-- the journal of these records: the line of each
unfoldable pub journal_text : List (List (List ℕ)) → List ℕ
journal_text records = flat_map journal_line records

-- Whole lines.

-- there is a line feed among the bytes
abbrev pub has_line_feed : List ℕ → Bool
has_line_feed bytes = list_any (λ byte. byte == line_feed) bytes

-- the bytes up to the last line feed and with it; a last line that has none, as a stop may tear it, is left out
unfoldable pub whole_lines : List ℕ → List ℕ
whole_lines [] = []
whole_lines (byte ∷ bytes) = if has_line_feed (byte ∷ bytes) then byte ∷ whole_lines bytes else []
