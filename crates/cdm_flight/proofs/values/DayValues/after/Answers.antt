use Rattle.std.proofs.Common.{◌≡◌, ℕ, [], ◌∷◌, ◌++◌, ap, ◌∙◌, false, rules}
use Rattle.cdm_flight.specs.declared.reach.Reach.TheVariants as reach
use Rattle.cdm_time.specs.declared.tolerance.Tolerance.{Tolerance}
use Rattle.cdm_flight.specs.declared.{update.Update.Update as AnUpdate, update.Update.TheVariants.{Clock, Tol}, values.DayValues.DayValues}
use Rattle.cdm_flight.specs.{Reach.{reach_of, same_reach}, Journal.values_of}
use Rattle.cdm_flight.proofs.JournalLemmas.{values_of-clock, values_of-tolerance, values_of-untouched}
use Rattle.cdm_flight.proofs.values.DayValues.after.Goals as goal

pub returns-in-Clock : goal.returns-in-Clock
returns-in-Clock c = λ a h. ap (λ u. values_of (a ++ u ∷ [])) c.in-Clock.is ∙ (values_of-clock a c.in-Clock.now ∙ ap (λ (v : DayValues). record v { clock = c.in-Clock.now }) h)

pub returns-in-Tol : goal.returns-in-Tol
returns-in-Tol c = λ a h.
    ap (λ u. values_of (a ++ u ∷ [])) c.in-Tol.is
    ∙ (values_of-tolerance a c.in-Tol.tolerance ∙ ap (λ (v : DayValues). record v { tolerance = c.in-Tol.tolerance }) h)

not_day : (u : AnUpdate) → ((m : ℕ) → u ≡ Clock m → ⊥) → ((t : Tolerance) → u ≡ Tol t → ⊥) → same_reach (reach_of u) reach.Day ≡ false
not_day u h k = search rules

pub returns-in_default : goal.returns-in_default
returns-in_default c = λ a h. values_of-untouched a c.args.update.now (not_day c.args.update.now c.in_default.not-Clock c.in_default.not-Tol) ∙ h
