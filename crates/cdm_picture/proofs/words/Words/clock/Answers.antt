use Rattle.cdm_flight.proofs.NameLemmas.{IsOk-from_utf8}
use Rattle.cdm_picture.proofs.words.Words.clock.Goals as goal

pub unwrap-stamp-requires : goal.unwrap-stamp-requires
unwrap-stamp-requires c = IsOk-from_utf8 _ _ _ _ c.from_utf8.ensures.cases c.print-stamp.ensures.ascii
