-- What could help a flight is lines.
use Rattle.std.{proofs.Common.{ℕ, List, [], ◌∷◌, ◌++◌, codes, map, refl, arith, Option, None, Some}, specs.Prelude.flat_map}
use Rattle.std.specs.Option.{IsSomeAnd}
use Rattle.cdm_time.specs.declared.calendar.CalendarDate.{CalendarDate}
use Rattle.cdm_flight.specs.declared.{flight.Flight.Flight, role.Role.Role}
use Rattle.cdm_plan.specs.Day.{DayRecord}
use Rattle.cdm_kinds.specs.declared.format.Format.TheVariants.{Json as AsJson}
use Rattle.cdm_json.specs.Lines.{head_members}
use Rattle.cdm_row.specs.{Columns.Value, Json.{json_value, object_of}}
use Rattle.cdm_options.specs.declared.{helping.Helping.Helping, options.Options.Options}
use Rattle.cdm_options_text.specs.{Objects.{flight_members, help_members, help_object, helping_member, member_of, object_line, options_objects, options_reply}, Texts.{IsOptionsReply, IsOptionsText}}
use Rattle.cdm_lines.specs.Lines.{AreLines, FitsLine, IsLine}
use Rattle.cdm_lines.proofs.AnswerLemmas.{answer_fits, small_members, values_fit}
use Rattle.cdm_lines.proofs.{Texts.{lines-append, lines-flat_map, lines_same, one_line}, Values.{AreSmall, Small, small-append, small_array, small_object}}

is_object : (day : CalendarDate) (members : List (List ℕ × Value)) → AreLines (object_line day members)
is_object day members = one_line (object_line day members) (_, values_fit day members, refl)

pub are_options : (d : DayRecord) (known : Option Flight) (role : Option Role) (text : List ℕ) → IsOptionsText AsJson d known role text → AreLines text
are_options d known role text is =
    let day = d.airport.day in
    let o = is.options in
    lines_same text (options_objects day o) is.bytes
    (lines-append (object_line day (flight_members o)) (flat_map (λ h. object_line day (help_members day o.before h)) o.helping) (is_object day (flight_members o))
    (lines-flat_map (λ h. object_line day (help_members day o.before h)) (λ h. is_object day (help_members day o.before h)) o.helping))

-- The reply to a question.

small_help : (day : CalendarDate) (before : Option ℕ) (h : Helping) → Small 2 (help_object day before h)
small_help day before h = small_object 1 (map (member_of day) (help_members day before h)) (small_members 1 day (help_members day before h))

pub reply_fits : (number : ℕ) (day : CalendarDate) (o : Options)
    → FitsLine (object_of (head_members (Some number) (codes "OPTIONS") ++ (map (member_of day) (flight_members o) ++ helping_member day o)))
reply_fits number day o =
    let flight = map (member_of day) (flight_members o) in
    let small_helping : AreSmall 3 (helping_member day o) = (small_array 2 (help_object day o.before) (small_help day o.before) o.helping, tt) in
    answer_fits (Some number) (codes "OPTIONS") (flight ++ helping_member day o)
    (small-append 3 flight (helping_member day o) (small_members 3 day (flight_members o)) small_helping)

pub is_options_reply : (number : ℕ) (d : DayRecord) (known : Option Flight) (role : Option Role) (text : List ℕ) → IsOptionsReply number d known role text → IsLine text
is_options_reply number d known role text is = (_, reply_fits number d.airport.day is.options, is.bytes)
