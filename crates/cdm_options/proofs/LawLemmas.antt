-- Each record that is told is a what-if.
use Rattle.std.proofs.Common.{◌≡◌, ℕ, zero, suc, Bool, true, List, [], ◌∷◌, Option, None, Some, All, length, subst, sym}
use Rattle.std.proofs.lemmas.List.Elements.{All-filter, All-nil}
use Rattle.std.proofs.lemmas.List.Sorted.{All-permutation}
use Rattle.std.specs.{Prelude.{not, slice_get, ⊤}, List.{AllZip, range_with_len}}
use Rattle.cdm_flight.specs.{declared.flight.Flight.Flight, declared.role.Role.Role, declared.update.Update.Update}
use Rattle.cdm_plan.specs.Day.{DayRecord}
use Rattle.cdm_options.proofs.ListLemmas.{all_flat, all_if}
use Rattle.cdm_options.specs.{Effects.{IsEffect, minute_in}, Laws.{AreWhatIfs, IsWhatIf}, Options.{AreOptions, tried_for}}
use Rattle.cdm_options.specs.Helping.{all_helping, helping_at, helping_if, helping_of, is_outdone, is_sooner, told}
use Rattle.cdm_options.specs.declared.{effect.Effect.Effect, helping.Helping.Helping, options.Options.Options}
use Rattle.cdm_options.specs.declared.effect.Effect.TheVariants.{Planned, Refused}

module _ (d : DayRecord) (name : List ℕ) where
  -- what a record would do, if there is one at the place
  abbrev EffectAt : Option Update → Option Effect → Type 0
  EffectAt (Some u) (Some e) = IsEffect d name u e
  EffectAt mu me = ⊤

  at_place : (us : List Update) (es : List Effect) (k : ℕ) → AllZip (IsEffect d name) us es → EffectAt (slice_get us k) (slice_get es k)
  at_place [] [] k each = tt
  at_place (u ∷ us) (e ∷ es) zero each = each.0
  at_place (u ∷ us) (e ∷ es) (suc k) each = at_place us es k each.1
  at_place [] (e ∷ es) k each = absurd each
  at_place (u ∷ us) [] k each = absurd each

  module _ (before : Option ℕ) where
    of_one : (k : ℕ) (u : Update) (e : Effect) → IsEffect d name u e → All (IsWhatIf d name before) (helping_of before k u e)
    of_one k u (Planned (Some t) c m) is = all_if (IsWhatIf d name before) (is_sooner before t) _ (λ s. record { sooner = s; answer = is })
    of_one k u (Planned None c m) is = All-nil (IsWhatIf d name before)
    of_one k u (Refused w) is = All-nil (IsWhatIf d name before)

    of_place : (k : ℕ) (mu : Option Update) (me : Option Effect) → EffectAt mu me
        → All (IsWhatIf d name before) (helping_if before k mu me)
    unfolding helping_if
    of_place k (Some u) (Some e) is = of_one k u e is
    of_place k (Some u) None is = All-nil (IsWhatIf d name before)
    of_place k None me is = All-nil (IsWhatIf d name before)

    of_all : (us : List Update) (es : List Effect) → AllZip (IsEffect d name) us es → All (IsWhatIf d name before) (all_helping before us es)
    of_all us es each =
        all_flat (IsWhatIf d name before) (helping_at before us es) (λ k. of_place k (slice_get us k) (slice_get es k) (at_place us es k each)) (range_with_len 0 (length us))

pub what_ifs : AreWhatIfs
what_ifs d f role o a =
    let us = tried_for d a.plan f a.runs role in
    let before = minute_in d a.plan f.name in
    let all = all_helping before us a.effects in
    let P : Helping → Type 0 = IsWhatIf d f.name before in
    let told_all : All P o.helping = All-permutation P (told all) o.helping a.ranking.all
    (All-filter (λ h. not (is_outdone all h)) P all (of_all d f.name before us a.effects a.of_each)) in
    subst (λ (b : Option ℕ). All (IsWhatIf d f.name b) o.helping) (sym a.before) told_all
