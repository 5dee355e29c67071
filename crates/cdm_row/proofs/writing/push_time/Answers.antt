use Rattle.cdm_flight.proofs.NameLemmas.{IsOk-from_utf8}
use Rattle.cdm_row.proofs.writing.push_time.Goals as goal

pub unwrap-requires : goal.unwrap-requires
unwrap-requires c = IsOk-from_utf8 _ _ _ _ c.from_utf8.ensures.cases c.time_text-text.ensures.ascii
