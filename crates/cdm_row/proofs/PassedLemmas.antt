-- Rows that changed: those before are passed flight by flight.
use Rattle.std.proofs.{Common.{◌≡◌, ℕ, false, List, sym, ◌∙◌, ap}, lemmas.Bool.{false_from_ne_true, false≢true}}
use Rattle.cdm_plan.proofs.PlanWords.{is_same, same_name}
use Rattle.cdm_row.{specs.Changed.same_row, specs.declared.row.Row.Row, proofs.EqualRows.rows_decide}
use Rattle.cdm_view.proofs.PassedLemmas as passed

-- Rows of two flights are two
pub unlike : (a b : Row) → same_name a.flight b.flight ≡ false → same_row a b ≡ false
unlike a b other = false_from_ne_true (same_row a b) (λ same.
    false≢true (sym other ∙ is_same a.flight b.flight (ap (λ (r : Row). r.flight) ((rows_decide a b).0 same))))

-- what is left of those before has the Rows from a place on as all of them do
abbrev pub StillHas : List Row → List Row → List Row → ℕ → Type 0
StillHas = passed.StillHas (λ (r : Row). r.flight) same_row
