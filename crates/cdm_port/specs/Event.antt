-- What happens outside while a day is served.
use Rattle.std.specs.Prelude.{ℕ, List}

pub data Event : Type 0 where
  -- the journal was read, whole
  Read : List ℕ → Event
  -- a new file of these bytes, which are on the disk, was renamed over the journal
  Renamed : List ℕ → Event
  -- the journal was marked as served, and the mark is on the disk
  Marked : Event
  -- a last line without its end was left out, and told
  LeftOut : List ℕ → Event
  -- a line of the input was read, without its LF
  Line : List ℕ → Event
  -- a line of the input was passed over to its end, since it is too long or no LF ends it
  Broken : Event
  -- the input ended
  End : Event
  -- bytes were written at the journal's end
  Appended : List ℕ → Event
  -- the journal is on the disk as it was renamed and written
  Synced : Event
  -- bytes were written to the output
  Replied : List ℕ → Event
  -- the output was flushed
  Flushed : Event

-- the most bytes that a journal may have where it is read
abbrev pub journal_limit : ℕ
journal_limit = 8388608

-- the most bytes of a line of the input, without its LF
abbrev pub line_limit : ℕ
line_limit = 4096
