-- What could help a flight, in a format.
use Rattle.std.specs.Prelude.{◌≡◌, ℕ, List, Option}
use Rattle.cdm_time.specs.declared.calendar.CalendarDate.{CalendarDate}
use Rattle.cdm_flight.specs.declared.flight.Flight.{Flight}
use Rattle.cdm_flight.specs.declared.role.Role.{Role}
use Rattle.cdm_plan.specs.Day.{DayRecord}
use Rattle.cdm_kinds.specs.declared.format.Format.{Format}
use Rattle.cdm_kinds.specs.declared.format.Format.TheVariants.{Text, Json as AsJson}
use Rattle.cdm_options.specs.Options.{HasOptions}
use Rattle.cdm_options.specs.declared.options.Options.{Options}
use Rattle.cdm_options_text.specs.Lines.{options_lines}
use Rattle.cdm_options_text.specs.Objects.{options_objects, options_reply}

abbrev pub options_in : Format → CalendarDate → Options → List ℕ
options_in Text day o = options_lines day o
options_in AsJson day o = options_objects day o

-- the flight is known and on its stand, and the text tells its options
pub record IsOptionsText (format : Format) (d : DayRecord) (known : Option Flight) (role : Option Role) (text : List ℕ) : Type 0 where
  pub options : Options
  pub of_flight : HasOptions d known role options
  pub bytes : text ≡ options_in format d.airport.day options

-- the flight is known and on its stand, and the line replies to a question of this number with its options
pub record IsOptionsReply (number : ℕ) (d : DayRecord) (known : Option Flight) (role : Option Role) (text : List ℕ) : Type 0 where
  pub options : Options
  pub of_flight : HasOptions d known role options
  pub bytes : text ≡ options_reply number d.airport.day options
