-- What a check writes, and what it counts.
use Rattle.std.specs.Prelude.{◌≡◌, ◌≤◌, ℕ, ◌+◌, ◌-◌, ◌&&◌, Bool, true, false, nat_le, List, [], ◌∷◌, ◌++◌, length, take, codes, All, IsTrue, if◌then◌else◌}
use Rattle.std.specs.Fmt.{decimal}
use Rattle.std.specs.List.{AllZip, concat, list_all}
use Rattle.json.specs.Json.{Json, string}
use Rattle.cdm_flight.specs.Words.{text_of}
use Rattle.cdm_flight.specs.declared.word.RefusalWord.{RefusalWord}
use Rattle.cdm_report.specs.Report.{line_end}
use Rattle.cdm_kinds.specs.declared.format.Format.{Format}
use Rattle.cdm_kinds.specs.declared.format.Format.TheVariants.{Text, Json as AsJson}
use Rattle.cdm_row.specs.Json.{count_json, object_of}
use Rattle.cdm_json.specs.Lines.{json_line}
use Rattle.cdm_files.specs.Records.{records_of}
use Rattle.cdm_check.specs.Findings.{File, Finding, findings_in, is_stood_for, told_in}
use Rattle.cdm_check.specs.declared.counts.CheckCounts.{CheckCounts}

-- Sentences.

-- a byte of printable ASCII
abbrev pub is_printable : ℕ → Bool
is_printable byte = nat_le 32 byte && nat_le byte 126

-- a sentence: printable ASCII, in 160 columns at most
pub record IsSentence (text : List ℕ) : Type 0 where
  pub printable : IsTrue (list_all is_printable text)
  pub short : length text ≤ 160

-- Lines of findings.

-- as text: the file, the line of it on which the record begins, the record's number, the word, and a sentence
abbrev pub finding_text : Finding → ℕ → List ℕ → List ℕ
finding_text found line sentence = concat (
    found.path ∷ codes ":" ∷ decimal line ∷ codes ": record " ∷ decimal found.number ∷ codes ": " ∷ text_of found.word ∷ codes ": " ∷ sentence ∷ line_end ∷ [])

-- as JSON: where the record is
abbrev pub place_members : List ℕ → ℕ → ℕ → List (List ℕ × Json)
place_members path line number = (codes "path", string path) ∷ (codes "line", count_json line) ∷ (codes "record", count_json number) ∷ []

-- and why it is refused
abbrev pub cause_members : RefusalWord → List ℕ → List (List ℕ × Json)
cause_members word sentence = (codes "word", string (text_of word)) ∷ (codes "sentence", string sentence) ∷ []

abbrev pub finding_json : Finding → ℕ → List ℕ → List ℕ
finding_json found line sentence = json_line (object_of (place_members found.path line found.number ++ cause_members found.word sentence))

abbrev pub finding_line : Format → Finding → ℕ → List ℕ → List ℕ
finding_line Text found line sentence = finding_text found line sentence
finding_line AsJson found line sentence = finding_json found line sentence

-- the line tells the finding. The number of the line of the file and the sentence are only tested.
pub record IsLineOf (format : Format) (found : Finding) (text : List ℕ) : Type 0 where
  pub line : ℕ
  pub sentence : List ℕ
  pub of_words : IsSentence sentence
  pub bytes : text ≡ finding_line format found line sentence

-- the text has a line for each finding, in order
pub record AreLinesOf (format : Format) (found : List Finding) (text : List ℕ) : Type 0 where
  pub lines : List (List ℕ)
  pub each : AllZip (IsLineOf format) found lines
  pub bytes : text ≡ concat lines

-- Hints.

abbrev pub hint_members : List ℕ → List ℕ → List (List ℕ × Json)
hint_members path hint = (codes "path", string path) ∷ (codes "hint", string hint) ∷ []

-- a hint on the whole file of a path
abbrev pub hint_line : Format → List ℕ → List ℕ → List ℕ
hint_line Text path hint = concat (path ∷ codes ": " ∷ hint ∷ line_end ∷ [])
hint_line AsJson path hint = json_line (object_of (hint_members path hint))

-- the line is a hint on the whole file of this path
pub record IsHintOf (format : Format) (path text : List ℕ) : Type 0 where
  pub hint : List ℕ
  pub of_words : IsSentence hint
  pub bytes : text ≡ hint_line format path hint

-- the text has some hints on the file
pub record AreHintsOf (format : Format) (path text : List ℕ) : Type 0 where
  pub lines : List (List ℕ)
  pub each : All (IsHintOf format path) lines
  pub bytes : text ≡ concat lines

-- a hint that stands for all records of a feed: it ends with their number
pub record IsStanding (records : ℕ) (hint : List ℕ) : Type 0 where
  pub words : List ℕ
  pub of_words : IsSentence hint
  pub bytes : hint ≡ concat (words ∷ codes " (all " ∷ decimal records ∷ codes " records refused)" ∷ [])

-- the line is such a hint on the whole file of this path
pub record IsStandingHintOf (format : Format) (path : List ℕ) (records : ℕ) (text : List ℕ) : Type 0 where
  pub hint : List ℕ
  pub stands : IsStanding records hint
  pub bytes : text ≡ hint_line format path hint

-- the text has a hint that stands for all records of the file, and some others
pub record HasStandingHintOf (format : Format) (path : List ℕ) (records : ℕ) (text : List ℕ) : Type 0 where
  pub first : List ℕ
  pub stands : IsStandingHintOf format path records first
  pub others : List ℕ
  pub of_others : AreHintsOf format path others
  pub bytes : text ≡ first ++ others

-- the text has the hints on a feed: whether one of them stands for all its records, its path, and their number
abbrev pub AreFeedHintsOf : Format → Bool → List ℕ → ℕ → List ℕ → Type 0
AreFeedHintsOf format true path records text = HasStandingHintOf format path records text
AreFeedHintsOf format false path records text = AreHintsOf format path text

-- The last line.

-- so many lines of records are told at most
abbrev pub most_told : ℕ
most_told = 1000

-- how many records were read, and how many of them are refused; and how many of those that are to be told one by one
-- are not told, if there are some
unfoldable pub last_text : ℕ → ℕ → ℕ → List ℕ
last_text records refused told =
    if nat_le told most_told then concat (decimal records ∷ codes " records, " ∷ decimal refused ∷ codes " refused\n" ∷ [])
    else concat (decimal records ∷ codes " records, " ∷ decimal refused ∷ codes " refused, " ∷ decimal (told - most_told) ∷ codes " of them not shown\n" ∷ [])

abbrev pub last_members : ℕ → ℕ → List (List ℕ × Json)
last_members records refused = (codes "records", count_json records) ∷ (codes "refused", count_json refused) ∷ []

abbrev pub last_json : ℕ → ℕ → List ℕ
last_json records refused = json_line (object_of (last_members records refused))

-- how many records were read, and how many of them are refused; the text tells how many aren't shown, too
abbrev pub last_line : Format → ℕ → ℕ → ℕ → List ℕ
last_line Text records refused told = last_text records refused told
last_line AsJson records refused told = last_json records refused

-- The text.

-- what a check of an airport file, a feed and a scenario file counts: their records, and those that are refused
abbrev pub counts_in : File → File → File → CheckCounts
counts_in a f s = record {
  records = length (records_of a.bytes) + length (records_of f.bytes) + length (records_of s.bytes);
  refused = length (findings_in a f s);
}

-- the text of a check: hints on each file, a line for each of the first findings that are told one by one, and the last line
pub record IsCheck (format : Format) (a f s : File) (text : List ℕ) : Type 0 where
  pub hints_airport : List ℕ
  pub of_airport : AreHintsOf format a.path hints_airport
  pub hints_feed : List ℕ
  pub of_feed : AreFeedHintsOf format (is_stood_for a f) f.path (length (records_of f.bytes)) hints_feed
  pub hints_scenarios : List ℕ
  pub of_scenarios : AreHintsOf format s.path hints_scenarios
  pub found : List ℕ
  pub of_findings : AreLinesOf format (take most_told (told_in a f s)) found
  pub bytes : text ≡ concat (
      hints_airport ∷ hints_feed ∷ hints_scenarios ∷ found ∷ last_line format (counts_in a f s).records (counts_in a f s).refused (length (told_in a f s)) ∷ [])
