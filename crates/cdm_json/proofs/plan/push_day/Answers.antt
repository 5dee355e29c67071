use Rattle.cdm_flight.proofs.NameLemmas.{IsOk-from_utf8}
use Rattle.cdm_json.proofs.plan.push_day.Goals as goal

pub unwrap-requires : goal.unwrap-requires
unwrap-requires c = IsOk-from_utf8 _ _ _ _ c.from_utf8.ensures.cases c.date_text-date.ensures.ascii
