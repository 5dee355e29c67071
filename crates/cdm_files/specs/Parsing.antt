-- What a record of the feed spells: a role and an update, or the first word that refuses it.
use Rattle.std.specs.Prelude.{ℕ, List, ◌∷◌, Option, Some, None, Result, Err}
use Rattle.cdm_time.specs.declared.calendar.CalendarDate.{CalendarDate}
use Rattle.cdm_flight.specs.declared.role.Role.{Role}
use Rattle.cdm_flight.specs.declared.update.Update.{Update}
use Rattle.cdm_flight.specs.declared.word.RefusalWord.{RefusalWord}
use Rattle.cdm_flight.specs.declared.word.RefusalWord.TheVariants as word
use Rattle.cdm_files.specs.Fields.{of_one}
use Rattle.cdm_files.specs.Kinds.{update_of}
use Rattle.cdm_files.specs.Roles.{role_of}

-- with the role that a field names; FIELDS comes before ROLE, and ROLE before the other words
abbrev pub with_role : Option Role → Result Update RefusalWord → Result (Role × Update) RefusalWord
with_role (Some role) r = of_one (λ u. (role, u)) r
with_role None (Err word.Fields) = Err word.Fields
with_role None r = Err word.Role

-- what a record spells
unfoldable pub parse_of : CalendarDate → List (List ℕ) → Result (Role × Update) RefusalWord
parse_of day (role ∷ kind ∷ fields) = with_role (role_of role) (update_of day kind fields)
parse_of day fields = Err word.Fields
