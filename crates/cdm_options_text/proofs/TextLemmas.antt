-- A flight's options have one text.
use Rattle.std.proofs.Common.{◌≡◌, ◌∙◌, ℕ, List, Option, ap, sym}
use Rattle.std.specs.List.{IsDistinct}
use Rattle.cdm_flight.specs.{Names.same_name, declared.flight.Flight.Flight, declared.role.Role.Role}
use Rattle.cdm_plan.specs.{Airport.runway_names, Day.{DayRecord, flights_in}}
use Rattle.cdm_kinds.specs.declared.format.Format.{Format}
use Rattle.cdm_options.{specs.declared.options.Options.Options, proofs.OptionLemmas.one_has}
use Rattle.cdm_options_text.specs.{Objects.options_reply, Texts.{IsOptionsReply, IsOptionsText, options_in}}

pub one_text : (format : Format) (d : DayRecord) → IsDistinct same_name (runway_names d.airport) → IsDistinct same_name (flights_in d.journal)
    → (known : Option Flight) (role : Option Role) (x y : List ℕ) → IsOptionsText format d known role x → IsOptionsText format d known role y → x ≡ y
one_text format d runways flights known role x y a b =
    let same : a.options ≡ b.options = one_has d runways flights known role a.options b.options a.of_flight b.of_flight in
    a.bytes ∙ (ap (options_in format d.airport.day) same ∙ sym b.bytes)

-- and one line that replies with them
pub one_reply : (number : ℕ) (d : DayRecord) → IsDistinct same_name (runway_names d.airport) → IsDistinct same_name (flights_in d.journal)
    → (known : Option Flight) (role : Option Role) (x y : List ℕ) → IsOptionsReply number d known role x → IsOptionsReply number d known role y → x ≡ y
one_reply number d runways flights known role x y a b =
    let same : a.options ≡ b.options = one_has d runways flights known role a.options b.options a.of_flight b.of_flight in
    a.bytes ∙ (ap (options_reply number d.airport.day) same ∙ sym b.bytes)
