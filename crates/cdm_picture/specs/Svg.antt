-- The bytes of marks as SVG 1.1.
use Rattle.std.specs.Prelude.{ℕ, ◌/◌, ◌%◌, List, [], ◌∷◌, ◌++◌, codes, flat_map}
use Rattle.std.specs.Fmt.{decimal}
use Rattle.std.specs.List.{concat}
use Rattle.cdm_time.specs.declared.calendar.CalendarDate.{CalendarDate}
use Rattle.cdm_report.specs.Report.{line_end}
use Rattle.cdm_sequence.specs.Words.{rule_text}
use Rattle.cdm_view.specs.Standings.{standing_line}
use Rattle.cdm_view.specs.declared.standing.Standing.TheVariants.{OnRunway}
use Rattle.cdm_picture.specs.declared.style.TheConstants.{STYLE}
use Rattle.cdm_picture.specs.declared.marks.BlockedMark.{BlockedMark}
use Rattle.cdm_picture.specs.declared.marks.FlightMark.{FlightMark}
use Rattle.cdm_picture.specs.declared.marks.Section.{Section}
use Rattle.cdm_picture.specs.declared.shape.Area.{Area}
use Rattle.cdm_picture.specs.declared.shape.Label.{Label}
use Rattle.cdm_picture.specs.declared.shape.Paint.{Paint}
use Rattle.cdm_picture.specs.declared.shape.Paint.TheVariants as paint
use Rattle.cdm_picture.specs.declared.shape.Shape.{Shape}
use Rattle.cdm_picture.specs.declared.shape.Shape.TheVariants as shape

-- the name of a paint in the style
abbrev pub paint_word : Paint → List ℕ
paint_word paint.Page = codes "pg"
paint_word paint.Band = codes "bd"
paint_word paint.Cells = codes "cs"
paint_word paint.Cap = codes "cp"
paint_word paint.Count = codes "ct"
paint_word paint.Over = codes "ov"
paint_word paint.Closed = codes "cl"
paint_word paint.Hour = codes "hr"
paint_word paint.HalfHour = codes "hf"
paint_word paint.Now = codes "nw"
paint_word paint.Ice = codes "ri"
paint_word paint.Past = codes "rn"
paint_word paint.Ctot = codes "rc"
paint_word paint.Closure = codes "rx"
paint_word paint.Spacing = codes "rs"
paint_word paint.Rate = codes "rr"
paint_word paint.OffBlock = codes "fo"
paint_word paint.Airborne = codes "fa"
paint_word paint.TakeOff = codes "to"
paint_word paint.Moved = codes "mv"
paint_word paint.Heading = codes "hd"
paint_word paint.Runway = codes "rw"
paint_word paint.Plain = codes "tx"
paint_word paint.Middle = codes "md"
paint_word paint.Letter = codes "lt"
paint_word paint.NowText = codes "nt"

-- tenths of a pixel, with one digit behind the point
unfoldable pub tenths_text : ℕ → List ℕ
tenths_text tenths = concat (decimal (tenths / 10) ∷ codes "." ∷ decimal (tenths % 10) ∷ [])

-- a rectangle
unfoldable pub area_text : Area → List ℕ
area_text a = concat (
    codes "<rect class='" ∷ paint_word a.paint ∷ codes "' x='" ∷ tenths_text a.x ∷ codes "' y='" ∷ decimal a.y
    ∷ codes "' width='" ∷ tenths_text a.width ∷ codes "' height='" ∷ decimal a.height ∷ codes "'/>" ∷ line_end ∷ [])

-- a text
unfoldable pub label_text : Label → List ℕ
label_text l = concat (
    codes "<text class='" ∷ paint_word l.paint ∷ codes "' x='" ∷ tenths_text l.x ∷ codes "' y='" ∷ decimal l.y
    ∷ codes "'>" ∷ l.words ∷ codes "</text>" ∷ line_end ∷ [])

abbrev pub shape_text : Shape → List ℕ
shape_text (shape.Area area) = area_text area
shape_text (shape.Label label) = label_text label

-- what stands behind a flight that is painted so: it stands otherwise than in the day
abbrev pub note_of : Paint → List ℕ
note_of paint.Moved = codes " *"
note_of paint = []

-- a flight's title: its line, as scenarios are compared by it, and what is told of its waiting
unfoldable pub title_text : CalendarDate → FlightMark → List ℕ
title_text day m =
    codes "<title>" ++ standing_line day (OnRunway m.runway m.slot) ++ line_end ++ concat (m.waits ∷ codes "</title>" ∷ line_end ∷ [])

-- a take-off, a narrow rectangle at its place
abbrev pub take_off : FlightMark → Area
take_off m = record { paint = m.paint; x = m.x; y = m.y; width = 30; height = 13 }

-- the flight's name behind it
unfoldable pub name_text : FlightMark → List ℕ
name_text m = concat (
    codes "<text class='" ∷ paint_word m.paint ∷ codes "' x='" ∷ tenths_text m.x ∷ codes "' y='" ∷ decimal m.y
    ∷ codes "' dx='5' dy='11'>" ∷ m.slot.name ∷ note_of m.paint ∷ codes "</text></g>" ∷ line_end ∷ [])

-- a flight: its title, its bar, its take-off and its name
unfoldable pub flight_text : CalendarDate → FlightMark → List ℕ
flight_text day m = codes "<g>" ++ title_text day m ++ flat_map shape_text m.bar.items ++ area_text (take_off m) ++ name_text m

-- a blocked flight, with its rule
unfoldable pub blocked_text : BlockedMark → List ℕ
blocked_text m = concat (
    codes "<text class='" ∷ paint_word m.paint ∷ codes "' x='" ∷ tenths_text m.x ∷ codes "' y='" ∷ decimal m.y ∷ codes "'>"
    ∷ m.flight.name ∷ codes " " ∷ rule_text m.flight.rule ∷ note_of m.paint ∷ codes "</text>" ∷ line_end ∷ [])

-- the heading of a section
unfoldable pub heading_text : Section → List ℕ
heading_text s = concat (
    codes "<g transform='translate(10," ∷ decimal s.y ∷ codes ")'><text class='hd' y='18'>" ∷ s.heading ∷ codes "</text></g>" ∷ line_end ∷ [])

-- a section: its heading, what lies behind its flights, these, and the blocked ones
unfoldable pub section_text : CalendarDate → Section → List ℕ
section_text day s =
    heading_text s ++ flat_map shape_text s.shapes.items ++ flat_map (flight_text day) s.flights.items ++ flat_map blocked_text s.blocked.items

-- the beginning and the ground of a picture that is so high
unfoldable pub opening_text : ℕ → List ℕ
opening_text height = concat (
    codes "<svg xmlns='http://www.w3.org/2000/svg' version='1.1' width='1600' height='" ∷ decimal height
    ∷ codes "' viewBox='0 0 1600 " ∷ decimal height ∷ codes "'>" ∷ line_end ∷ [])

unfoldable pub ground_text : ℕ → List ℕ
ground_text height = concat (codes "<rect class='pg' width='1600' height='" ∷ decimal height ∷ codes "'/>" ∷ line_end ∷ [])

-- the style
unfoldable pub style_text : List ℕ
style_text = STYLE.now

-- a picture: its beginning, the style, the ground, the legend, the sections and the end
unfoldable pub picture_text : CalendarDate → ℕ → List Shape → List Section → List ℕ
picture_text day height legend sections =
    opening_text height ++ style_text ++ ground_text height ++ flat_map shape_text legend ++ flat_map (section_text day) sections ++ (codes "</svg>" ++ line_end)
