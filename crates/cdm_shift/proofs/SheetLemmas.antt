-- How full runways are, whichever they are by name.
use Rattle.std.{proofs.Common.{◌≡◌, ◌∙◌, ◌++◌, ◌∷◌, ℕ, List, [], Option}, specs.{List.filter, List.flat_map}}
use Rattle.cdm_csv.specs.Rows.{csv_text}
use Rattle.cdm_flight.specs.Journal.{AirportRows}
use Rattle.cdm_runway.specs.Rules.{RunwayRules}
use Rattle.cdm_sequence.specs.declared.plan.Plan.{Plan}
use Rattle.cdm_plan.{specs.{Day.DayRecord, DayPlan.AreByName}, proofs.NameLemmas.{rules_by_name, rules_in}}
use Rattle.cdm_view.specs.Load.{is_asked}
use Rattle.cdm_shift.specs.Sheets.{IsLoadSheet, cell_columns, runway_sheet}

pub sheet_told : (d : DayRecord) (h : AirportRows) (plan : Plan) (asked : Option (List ℕ)) (begun text : List ℕ) → h ≡ d.airport → begun ≡ csv_text (cell_columns ∷ [])
    → ((runways : List RunwayRules) → AreByName d runways → text ≡ begun ++ flat_map (runway_sheet h plan) (filter (is_asked asked) runways))
    → IsLoadSheet d plan asked text
sheet_told d h plan asked begun text same first rest =
    let runways = rules_in d.airport d.journal in (
      runways,
      rules_by_name d,
      rest runways (rules_by_name d) ∙ (λ i. first i ++ flat_map (runway_sheet (same i) plan) (filter (is_asked asked) runways)),
    )
