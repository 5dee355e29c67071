-- One more record has one effect.
use Rattle.std.proofs.Common.{◌≡◌, ◌∙◌, ℕ, List, [], ◌∷◌, length, Option, sym, ap}
use Rattle.std.specs.List.{IsDistinct}
use Rattle.cdm_flight.specs.Names.{same_name}
use Rattle.cdm_flight.specs.declared.update.Update.{Update}
use Rattle.cdm_flight.specs.declared.word.RefusalWord.{RefusalWord}
use Rattle.cdm_sequence.specs.declared.plan.Plan.{Plan}
use Rattle.cdm_report.specs.declared.counts.Counts.{Counts}
use Rattle.cdm_plan.specs.Airport.{runway_names}
use Rattle.cdm_plan.specs.Day.{DayRecord, flights_in}
use Rattle.cdm_view.specs.declared.standing.Standing.{Standing}
use Rattle.cdm_view.proofs.ChangeLemmas.{Own, one_changed_to}
use Rattle.cdm_scenario.specs.declared.outcome.Outcome.TheVariants as outcome
use Rattle.cdm_scenario.specs.inner.OneOutcome.{names_with_all, one_outcome}
use Rattle.cdm_options.specs.Effects.{IsEffect, minute_in, with_one}
use Rattle.cdm_options.specs.declared.effect.Effect.{Effect}
use Rattle.cdm_options.specs.declared.effect.Effect.TheVariants.{Planned, Refused}

module _ (d : DayRecord) (runways : IsDistinct same_name (runway_names d.airport)) (flights : IsDistinct same_name (flights_in d.journal)) where
  pub one_effect : (name : List ℕ) (u : Update) (x y : Effect) → IsEffect d name u x → IsEffect d name u y → x ≡ y
  one_effect name u (Planned s c m) (Planned t k n) a b =
      let us : List Update = u ∷ [] in
      let same : outcome.Planned a.0 c ≡ outcome.Planned b.0 k = one_outcome d us runways flights (outcome.Planned a.0 c) (outcome.Planned b.0 k) a.1 b.1 in
      let plans : a.0 ≡ b.0 = cc in
      let counts : c ≡ k = cc in
      let own : Own (with_one d u) = (runways, names_with_all d us flights a.1.0) in
      let changed : a.3 ≡ b.3 = one_changed_to d (with_one d u) (runways, flights) own a.3 b.3 a.4 b.4 in
      let minutes : s ≡ t = a.2 ∙ (ap (λ (p : Plan). minute_in (with_one d u) p name) plans ∙ sym b.2) in
      let moved : m ≡ n = a.5 ∙ (ap (λ (l : List Standing). length l) changed ∙ sym b.5) in
      λ i. Planned (minutes i) (counts i) (moved i)
  one_effect name u (Planned s c m) (Refused w) a b =
      let us : List Update = u ∷ [] in
      let same : outcome.Planned a.0 c ≡ outcome.Refused b.0 w = one_outcome d us runways flights (outcome.Planned a.0 c) (outcome.Refused b.0 w) a.1 b.1 in
      cc
  one_effect name u (Refused w) (Planned s c m) a b =
      let us : List Update = u ∷ [] in
      let same : outcome.Planned b.0 c ≡ outcome.Refused a.0 w = one_outcome d us runways flights (outcome.Planned b.0 c) (outcome.Refused a.0 w) b.1 a.1 in
      cc
  one_effect name u (Refused w) (Refused v) a b =
      let us : List Update = u ∷ [] in
      let same : outcome.Refused a.0 w ≡ outcome.Refused b.0 v = one_outcome d us runways flights (outcome.Refused a.0 w) (outcome.Refused b.0 v) a.1 b.1 in
      cc
