-- Records as they are written, by which the grammar of records can be checked.
use Rattle.std.specs.Prelude.{ℕ, ◌==◌, Bool, true, false, not, ◌||◌, ◌&&◌, ◌≡◌, List, [], ◌∷◌, ◌++◌, map, Option, Some, None, All, IsTrue}
use Rattle.std.specs.List.{list_any, list_all, filter_map, flat_map}
use Rattle.csv.specs.Reading.{strip_bom}
use Rattle.csv.specs.Writing.{default_writer, quoted}

-- how a line ends
pub data LineEnd : Type 0 where
  Lf : LineEnd
  CrLf : LineEnd

abbrev pub end_of : LineEnd → List ℕ
end_of Lf = 10 ∷ []
end_of CrLf = 13 ∷ 10 ∷ []

-- a field: its bytes as they stand, or in quotes with each of its own quotes doubled
pub data Field : Type 0 where
  Plain : List ℕ → Field
  InQuotes : List ℕ → Field

abbrev pub field_text : Field → List ℕ
field_text (Plain x) = x
field_text (InQuotes x) = quoted default_writer x

abbrev pub field_bytes : Field → List ℕ
field_bytes (Plain x) = x
field_bytes (InQuotes x) = x

-- a line: fields and how it ends; one without fields is blank
pub record Line : Type 0 where
  pub fields : List Field
  pub end : LineEnd

-- fields with commas between them
unfoldable pub after_commas : List Field → List ℕ
after_commas [] = []
after_commas (f ∷ fs) = 44 ∷ (field_text f ++ after_commas fs)

abbrev pub joined : List Field → List ℕ
joined [] = []
joined (f ∷ fs) = field_text f ++ after_commas fs

-- the text of lines, and of a last one that nothing ends
abbrev pub text_of : List Line → List Field → List ℕ
text_of lines last = flat_map (λ line. joined line.fields ++ end_of line.end) lines ++ joined last

-- the record of fields, if there are some
abbrev pub record_of : List Field → Option (List (List ℕ))
record_of [] = None
record_of (f ∷ fs) = Some (map field_bytes (f ∷ fs))

abbrev pub records_in : List Line → List Field → List (List (List ℕ))
records_in lines last = filter_map record_of (map (λ line. line.fields) lines ++ last ∷ [])

-- a comma, a quote, a carriage return or a line feed
abbrev pub is_mark : ℕ → Bool
is_mark b = (b == 44) || (b == 34) || (b == 13) || (b == 10)

-- the bytes of a field that stands as it is have no mark
abbrev pub is_field : Field → Bool
is_field (Plain x) = not (list_any is_mark x)
is_field (InQuotes x) = true

-- an empty field that stands alone as it is, which is a blank line
abbrev pub is_lone_empty : List Field → Bool
is_lone_empty (Plain [] ∷ []) = true
is_lone_empty _ = false

abbrev pub is_written : List Field → Bool
is_written fields = list_all is_field fields && not (is_lone_empty fields)

-- the fields of each line can be told, and the text doesn't begin with a byte order mark
pub record AreWritten (lines : List Line) (last : List Field) : Type 0 where
  pub each : All (λ line. IsTrue (is_written line.fields)) lines
  pub at_end : IsTrue (is_written last)
  pub unmarked : strip_bom (text_of lines last) ≡ text_of lines last
