-- What the steps answer that carry a day over.
use Rattle.std.specs.Prelude.{◌≡◌, ⊤, Bool, List, ℕ, Err}
use Rattle.std.specs.List.{list_any}
use Rattle.cdm_flight.specs.Journal.{AirportRows}
use Rattle.cdm_kinds.specs.declared.format.Format.{Format}
use Rattle.cdm_files.specs.Refused.{Spelled}
use Rattle.cdm_files.specs.AirportFile.{airport_in}
use Rattle.cdm_files.specs.declared.common_fault.CommonFault.TheVariants as common
use Rattle.cdm_files.specs.declared.run_error.RunError.{RunError}
use Rattle.cdm_files.specs.declared.run_error.RunError.TheVariants as error
use Rattle.cdm_carry.specs.Noticed.{AreNotices}
use Rattle.cdm_carry.specs.NoticeTexts.{notices_text}
use Rattle.cdm_carry.specs.Notices.{needs_care}
use Rattle.cdm_carry.specs.declared.notice.Notice.{Notice}

-- why the next airport file makes no airport
abbrev pub IsNextAirportFault : List ℕ → RunError → Type 0
IsNextAirportFault next (error.NextAirport number word) = airport_in next ≡ Err (number, word)
IsNextAirportFault next (error.Common common.Memory) = ⊤
IsNextAirportFault next fault = ⊥

-- the text has the notices of these records, and this tells whether a person has to see to one of them
pub record AreMade (format : Format) (g : AirportRows) (records : List Spelled) (h : AirportRows) (text : List ℕ) (care : Bool) : Type 0 where
  pub notices : List Notice
  pub are : AreNotices g records h notices
  pub bytes : text ≡ notices_text format g.day h.day notices
  pub seen : care ≡ list_any needs_care notices
