use Rattle.cdm_day.proofs.Words.{Bor, ◌≡◌, ℕ, List, length, get_or, IfSome, Option, ltb, rules, is_some, option_copied, slice_get}
use Rattle.cdm_day.proofs.DayWords.{RunwayRules}
use Rattle.std.proofs.lemmas.{Bool.{ltb-false, ltb-true}, Option.{slice_get_past, slice_get_read}}
use Rattle.cdm_day.proofs.tables.records.TablesRecords.runway_at.Goals as goal

-- what `get` finds
at_place : (o : Option (Bor RunwayRules)) (xs : List RunwayRules) (i : ℕ) → is_some o ≡ ltb i (length xs) → IfSome o (λ x. x.now ≡ get_or xs i x.now)
    → option_copied o ≡ slice_get xs i
at_place o xs i found is = search (rules, slice_get_past, ltb-false, slice_get_read, ltb-true)

pub returns-clause-value : goal.returns-clause-value
returns-clause-value c = search (rules, at_place)
