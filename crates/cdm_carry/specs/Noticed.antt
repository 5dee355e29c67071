-- The notices that an airport file, a feed and the next airport file make.
use Rattle.std.specs.Prelude.{◌≡◌, ℕ, Bool, false, List, [], IsPermutation, IsSortedByKey, Ok}
use Rattle.std.specs.List.{list_any}
use Rattle.cdm_flight.specs.declared.flight.Flight.{Flight}
use Rattle.cdm_flight.specs.Accepted.{accepted}
use Rattle.cdm_flight.specs.Journal.{AirportRows}
use Rattle.cdm_flight.specs.Names.{name_cmp}
use Rattle.cdm_kinds.specs.declared.format.Format.{Format}
use Rattle.cdm_plan.specs.DayPlan.{records_in}
use Rattle.cdm_files.specs.AirportFile.{airport_in}
use Rattle.cdm_files.specs.FeedDay.{spelled_in}
use Rattle.cdm_files.specs.Refused.{Spelled, updates_in}
use Rattle.cdm_carry.specs.CarriedFeed.{IsCarriedFeed, IsNextDay}
use Rattle.cdm_carry.specs.NoticeTexts.{notices_text}
use Rattle.cdm_carry.specs.Notices.{needs_care, notices, numbered}
use Rattle.cdm_carry.specs.declared.carry_text.CarryText.{CarryText}
use Rattle.cdm_carry.specs.declared.carry_text.CarryText.TheVariants as asked
use Rattle.cdm_carry.specs.declared.notice.Notice.{Notice}

-- these are the notices of the day that the records of a feed make at an airport, whose flights are taken by name, before the
-- day of the next airport
pub record AreNotices (g : AirportRows) (records : List Spelled) (h : AirportRows) (found : List Notice) : Type 0 where
  pub flights : List Flight
  pub all : IsPermutation (records_in g (accepted g [] (updates_in records))) flights
  pub by_name : IsSortedByKey (λ f. f.name) name_cmp flights
  pub value : found ≡ notices flights (accepted g [] (updates_in records)) (numbered g [] 1 records) h

-- the text has the notices of a feed at an airport, and this tells whether a person has to see to one of them
pub record IsNoticeText (format : Format) (care : Bool) (airport feed next text : List ℕ) : Type 0 where
  pub rows : AirportRows
  pub airport_file : airport_in airport ≡ Ok rows
  pub next_rows : AirportRows
  pub next_file : airport_in next ≡ Ok next_rows
  pub days : IsNextDay rows.day next_rows.day
  pub notices : List Notice
  pub are : AreNotices rows (spelled_in rows feed) next_rows notices
  pub bytes : text ≡ notices_text format rows.day next_rows.day notices
  pub seen : care ≡ list_any needs_care notices

-- what is asked for: the feed of the next day, of which nothing has to be seen to, or the notices
abbrev pub IsCarryText : CarryText → Bool → List ℕ → List ℕ → List ℕ → List ℕ → Type 0
IsCarryText asked.Feed care airport feed next text = IsCarriedFeed airport feed next text × (care ≡ false)
IsCarryText (asked.Notices format) care airport feed next text = IsNoticeText format care airport feed next text
