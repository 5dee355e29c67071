-- The record that a notice is of.
use Rattle.std.specs.Prelude.{ℕ, List, []}
use Rattle.cdm_time.specs.declared.calendar.CalendarDate.{CalendarDate}
use Rattle.cdm_carry.specs.Texts.{record_text}
use Rattle.cdm_carry.specs.declared.notice.Notice.{Notice}
use Rattle.cdm_carry.specs.declared.notice.Notice.TheVariants.{Refused}

-- as a text, or none
abbrev pub own_line : CalendarDate → Notice → List ℕ
own_line next (Refused n word role u) = record_text next (role, u)
own_line next notice = []
