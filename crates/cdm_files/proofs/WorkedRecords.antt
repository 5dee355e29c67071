-- The bytes of two files of examples, read back: `one_flight/airport.csv` as it stands, and `one_flight/feed.csv`
-- with CR LF, a blank line and no line end after the last record.
use Rattle.cdm_files.proofs.{Words.{◌≡◌, List, ℕ, [], ◌∷◌, refl, codes, All-from_recursion, strip_bom}, WrittenLemmas.{Told, read_back}}
use Rattle.cdm_files.specs.{Records.records_of, Written.{AreWritten, Field, Line, LineEnd, Lf, CrLf, Plain, after_commas}}
use Rattle.std.specs.Prelude.{map}

abbrev plain : List (List ℕ) → List Field
plain fields = map Plain fields

abbrev line_with : LineEnd → List Field → Line
line_with end fields = record { fields = fields; end = end }

-- AIRPORT

abbrev rows : List (List (List ℕ))
rows =
    (codes "DAY" ∷ codes "2025-03-10" ∷ []) ∷ (codes "RUNWAY" ∷ codes "27L" ∷ codes "10" ∷ codes "2" ∷ [])
    ∷ (codes "TAXI" ∷ codes "*" ∷ codes "27L" ∷ codes "15" ∷ []) ∷ (codes "TAXI" ∷ codes "A1" ∷ codes "27L" ∷ codes "10" ∷ []) ∷ []

abbrev airport : List Line
airport = map (λ fields. line_with Lf (plain fields)) rows

airport_written : AreWritten airport []
unfolding strip_bom after_commas
airport_written = record { each = All-from_recursion Told airport (refl, (refl, (refl, (refl, tt)))); at_end = refl; unmarked = refl }

airport_read : records_of (codes "DAY,2025-03-10\nRUNWAY,27L,10,2\nTAXI,*,27L,15\nTAXI,A1,27L,10\n") ≡ rows
unfolding after_commas
airport_read = read_back airport [] airport_written

-- FEED

abbrev flt : List (List ℕ)
flt = codes "AP" ∷ codes "FLT" ∷ codes "AB1" ∷ codes "5" ∷ []

abbrev rwy : List (List ℕ)
rwy = codes "ATC" ∷ codes "RWY" ∷ codes "AB1" ∷ codes "27L" ∷ []

abbrev tobt : List (List ℕ)
tobt = codes "AO" ∷ codes "TOBT" ∷ codes "AB1" ∷ codes "2025-03-10T06:00Z" ∷ []

abbrev feed : List Line
feed = map (line_with CrLf) (plain flt ∷ [] ∷ plain rwy ∷ [])

feed_written : AreWritten feed (plain tobt)
unfolding strip_bom after_commas
feed_written = record { each = All-from_recursion Told feed (refl, (refl, (refl, tt))); at_end = refl; unmarked = refl }

feed_read : records_of (codes "AP,FLT,AB1,5\r\n\r\nATC,RWY,AB1,27L\r\nAO,TOBT,AB1,2025-03-10T06:00Z") ≡ flt ∷ rwy ∷ tobt ∷ []
unfolding after_commas
feed_read = read_back feed (plain tobt) feed_written
