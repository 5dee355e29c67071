use Rattle.cdm_flight.proofs.NameLemmas.{IsOk-from_utf8}
use Rattle.cdm_carry.proofs.writing.TimeTextDisplay.fmt.Goals as goal

pub unwrap-requires : goal.unwrap-requires
unwrap-requires g c = IsOk-from_utf8 _ _ _ _ c.from_utf8.ensures.cases c.time_text-text.ensures.ascii
