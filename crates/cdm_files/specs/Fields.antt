-- What the fields of a record spell: a value, or the word that refuses it.
-- A field that hasn't its form is refused by TEXT, one out of its range by RANGE.
use Rattle.std.specs.Prelude.{ℕ, Bool, ◌&&◌, ◌==◌, not, nat_le, List, [], length, codes, bytes_eq, Option, Some, None, unwrap_or, Result, Ok, Err, if◌then◌else◌}
use Rattle.std.specs.Option.{ok_or}
use Rattle.std.specs.Result.{result_flatten, result_map_both}
use Rattle.csv.specs.Records.{field_at}
use Rattle.cdm_time.specs.Digits.{are_digits, number_in}
use Rattle.cdm_time.specs.Times.{minute_up_to}
use Rattle.cdm_time.specs.declared.tolerance.Tolerance.{Tolerance}
use Rattle.cdm_time.specs.declared.calendar.CalendarDate.{CalendarDate}
use Rattle.cdm_time.specs.declared.day.TimeFault.{TimeFault}
use Rattle.cdm_time.specs.declared.day.TimeFault.TheVariants as fault
use Rattle.cdm_flight.specs.Names.{is_name}
use Rattle.cdm_flight.specs.Spacing.{group_of}
use Rattle.cdm_flight.specs.declared.group.Group.{Group}
use Rattle.cdm_flight.specs.declared.ice.Ice.{Ice}
use Rattle.cdm_flight.specs.declared.ice.Ice.TheVariants.{NoIce, AtStand, Remote}
use Rattle.cdm_flight.specs.declared.place.Place.{Place}
use Rattle.cdm_flight.specs.declared.place.Place.TheVariants as place
use Rattle.cdm_flight.specs.declared.word.RefusalWord.{RefusalWord}
use Rattle.cdm_flight.specs.declared.word.RefusalWord.TheVariants.{Fields, Text, Range}

-- the field at a place, counted from 0
abbrev pub field : List (List ℕ) → ℕ → List ℕ
field fields place = unwrap_or (field_at fields place) []

-- what so many fields spell; another number of them is refused by FIELDS
abbrev pub counted : {X : Type 0} → ℕ → ℕ → Result X RefusalWord → Result X RefusalWord
counted wanted count r = if count == wanted then r else Err Fields

-- goes on with a good value, and keeps the word that refuses a faulty one
abbrev pub and_then : {A X E : Type 0} → Result A E → (A → Result X E) → Result X E
and_then r more = result_flatten (result_map_both more (λ fault. fault) r)

-- what a good field's value makes
abbrev pub of_one : {A X : Type 0} → (A → X) → Result A RefusalWord → Result X RefusalWord
of_one f r = and_then r (λ a. Ok (f a))

-- Several fields.

-- two values, or the word that refuses them: TEXT where one hasn't its form, else the word of the first that is faulty
unfoldable pub both : {A B : Type 0} → Result A RefusalWord → Result B RefusalWord → Result (A × B) RefusalWord
both (Ok a) (Ok b) = Ok (a, b)
both (Err Text) r = Err Text
both r (Err Text) = Err Text
both (Err word) r = Err word
both r (Err word) = Err word

-- what the values of two good fields make
abbrev pub of_two : {A B X : Type 0} → (A → B → X) → Result A RefusalWord → Result B RefusalWord → Result X RefusalWord
of_two f a b = of_one (λ p. f p.0 p.1) (both a b)

-- what the values of three good fields make
unfoldable pub of_three : {A B C X : Type 0} → (A → B → C → X) → Result A RefusalWord → Result B RefusalWord → Result C RefusalWord → Result X RefusalWord
of_three f a b c = of_one (λ p. f p.0 p.1.0 p.1.1) (both a (both b c))

-- what the values of four good fields make
unfoldable pub of_four : {A B C D X : Type 0} → (A → B → C → D → X)
    → Result A RefusalWord → Result B RefusalWord → Result C RefusalWord → Result D RefusalWord → Result X RefusalWord
of_four f a b c d = of_one (λ p. f p.0 p.1.0 p.1.1.0 p.1.1.1) (both a (both b (both c d)))

-- Names.

-- a name of such a form
unfoldable pub name_field : (List ℕ → Bool) → List ℕ → Result (List ℕ) RefusalWord
name_field is_good text = if is_good text then Ok text else Err Text

abbrev pub flight_field : List ℕ → Result (List ℕ) RefusalWord
flight_field = name_field (is_name 7)

abbrev pub runway_field : List ℕ → Result (List ℕ) RefusalWord
runway_field = name_field (is_name 3)

-- a stand, or `*` for the runway's default
unfoldable pub place_field : List ℕ → Result Place RefusalWord
place_field text = if bytes_eq text (codes "*") then Ok place.Default else of_one place.Stand (name_field (is_name 5) text)

-- a group: L, M or H
abbrev pub group_field : List ℕ → Result Group RefusalWord
group_field text = ok_or (group_of text) Text

-- Numbers.

-- a number that is neither below the least nor above the most
abbrev pub from_to : ℕ → ℕ → ℕ → Bool
from_to least most n = nat_le least n && nat_le n most

-- a number of 1 to 4 digits that is in a range
unfoldable pub number_field : (ℕ → Bool) → List ℕ → Result ℕ RefusalWord
number_field in_range text =
    if not (from_to 1 4 (length text) && are_digits text) then Err Text
    else if in_range (number_in text) then Ok (number_in text) else Err Range

-- a tolerance: 0 to 15 minutes before a CTOT, and 0 to 30 after it
unfoldable pub tolerance_fields : List ℕ → List ℕ → Result Tolerance RefusalWord
tolerance_fields before after =
    of_two (λ b a. record { before = b; after = a }) (number_field (from_to 0 15) before) (number_field (from_to 0 30) after)

-- NONE with 0 minutes, STAND or REMOTE with 1 to 60
unfoldable pub ice_field : List ℕ → List ℕ → Result Ice RefusalWord
ice_field kind minutes =
    if bytes_eq kind (codes "NONE") then of_one (λ n. NoIce) (number_field (λ n. n == 0) minutes)
    else if bytes_eq kind (codes "STAND") then of_one AtStand (number_field (from_to 1 60) minutes)
    else if bytes_eq kind (codes "REMOTE") then of_one Remote (number_field (from_to 1 60) minutes)
    else Err Text

-- Days and times.

-- the word for a text that names no day or time
abbrev pub word_of : TimeFault → RefusalWord
word_of fault.Text = Text
word_of fault.Range = Range

abbrev pub refused_by_word : {X : Type 0} → Result X TimeFault → Result X RefusalWord
refused_by_word r = result_map_both (λ x. x) word_of r

-- a time, as the minute of the horizon
abbrev pub time_field : CalendarDate → List ℕ → Result ℕ RefusalWord
time_field day text = refused_by_word (minute_up_to 2879 day text)

-- the end of a window
abbrev pub bound_field : CalendarDate → List ℕ → Result ℕ RefusalWord
bound_field day text = refused_by_word (minute_up_to 2880 day text)

-- a CTOT, or `-` for none any more
unfoldable pub ctot_field : CalendarDate → List ℕ → Result (Option ℕ) RefusalWord
ctot_field day text = if bytes_eq text (codes "-") then Ok None else of_one Some (time_field day text)
