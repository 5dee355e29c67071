-- The feed of the next day that an airport file, a feed and the next airport file make.
use Rattle.std.specs.Prelude.{◌≡◌, ℕ, List, Ok}
use Rattle.cdm_time.specs.Times.{next_date}
use Rattle.cdm_time.specs.declared.calendar.CalendarDate.{CalendarDate}
use Rattle.cdm_flight.specs.Journal.{AirportRows}
use Rattle.cdm_files.specs.AirportFile.{airport_in}
use Rattle.cdm_files.specs.FeedDay.{spelled_in}
use Rattle.cdm_files.specs.Refused.{updates_in}
use Rattle.cdm_carry.specs.Carry.{carry}
use Rattle.cdm_carry.specs.Texts.{feed_text}

-- a day and the one after it
abbrev pub IsNextDay : CalendarDate → CalendarDate → Type 0
IsNextDay day next = next ≡ next_date day

-- the text is what the next airport has of the accepted records of a feed at an airport, as a feed of the next day
pub record IsCarriedFeed (airport feed next text : List ℕ) : Type 0 where
  pub rows : AirportRows
  pub airport_file : airport_in airport ≡ Ok rows
  pub next_rows : AirportRows
  pub next_file : airport_in next ≡ Ok next_rows
  pub days : IsNextDay rows.day next_rows.day
  pub bytes : text ≡ feed_text next_rows.day (carry rows (updates_in (spelled_in rows feed)) next_rows)

-- the bytes of three files have one such feed at most
abbrev pub HaveOneFeed : List ℕ → List ℕ → List ℕ → Type 0
HaveOneFeed airport feed next = (x y : List ℕ) → IsCarriedFeed airport feed next x → IsCarriedFeed airport feed next y → x ≡ y
