use Rattle.cdm_flight.proofs.NameLemmas.{IsOk-from_utf8}
use Rattle.cdm_report.proofs.text.push_day.Goals as goal

pub unwrap-date-requires : goal.unwrap-date-requires
unwrap-date-requires c = IsOk-from_utf8 _ _ _ _ c.from_utf8.ensures.cases c.date_text-date.ensures.ascii
