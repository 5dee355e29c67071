-- How full runways are, whichever they are by name.
use Rattle.cdm_json.proofs.Words.{◌≡◌, ◌∙◌, ◌++◌, ℕ, List, [], Option, filter, flat_map, AirportRows, RunwayRules, Plan, DayRecord}
use Rattle.cdm_json.{proofs.Words.{AreByName, rules_by_name, rules_in, is_asked}, specs.Loads.{AreLoadLines, load_line}}

pub load_told : (d : DayRecord) (h : AirportRows) (number : Option ℕ) (plan : Plan) (asked : Option (List ℕ)) (none text : List ℕ) → h ≡ d.airport → none ≡ []
    → ((runways : List RunwayRules) → AreByName d runways → text ≡ none ++ flat_map (load_line h number plan) (filter (is_asked asked) runways))
    → AreLoadLines d number plan asked text
load_told d h number plan asked none text same empty rest =
    let runways = rules_in d.airport d.journal in (
      runways,
      rules_by_name d,
      rest runways (rules_by_name d) ∙ (λ i. empty i ++ flat_map (load_line (same i) number plan) (filter (is_asked asked) runways)),
    )
