use Rattle.cdm_day.proofs.Words.{rules, get_or-map, get_or_default, length-map, same_lists}
use Rattle.cdm_day.proofs.airport.space_rows.Goals as goal

pub returns : goal.returns
returns c = search (rules, same_lists, length-map, get_or_default, get_or-map)
