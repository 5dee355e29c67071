-- A flight has one list of options.
use Rattle.std.proofs.Common.{◌≡◌, ◌∙◌, ℕ, Bool, true, false, List, [], ◌∷◌, Option, None, Some, count_by, length, inl, inr, sym, ap, subst, arith}
use Rattle.std.proofs.lemmas.{Bool.Decides.nat_tests, Cmp.nat_cmp_total, Cmp.on_total, Cmp.then_total}
use Rattle.std.specs.Cmp.{IsTotalOrder}
use Rattle.std.specs.{Prelude.{Contains, if◌then◌else◌, not, slice_get}, List.{AllZip, IsDistinct, range_with_len}, Option.option_map_or, Ordering.nat_cmp}
use Rattle.std.specs.declared.cmp.Ordering.TheVariants.{Equal}
use Rattle.cdm_flight.specs.{Names.same_name, declared.flight.Flight.Flight, declared.role.Role.Role, declared.update.Update.Update}
use Rattle.cdm_flight.proofs.Lists.{contains_all, contains_cases}
use Rattle.cdm_sequence.proofs.{OneLemmas.one_order, OrderLemmas.last_ties}
use Rattle.cdm_sequence.specs.declared.plan.Plan.{Plan}
use Rattle.cdm_report.specs.Counts.{counts_of}
use Rattle.cdm_plan.{specs.Airport.runway_names, specs.Day.{DayRecord, flights_in}, proofs.OnePlanLemmas.one_day_plan}
use Rattle.cdm_view.{specs.Why.{AreWaits, own_slot, waits_for}, proofs.AnswerLemmas.waits_one, proofs.ListLemmas.contains_flat}
use Rattle.cdm_scenario.specs.inner.OneOutcome.{one_each}
use Rattle.cdm_options.specs.{Effects.{IsEffect, minute_in}, inner.OneEffect.one_effect, Options.{AreOptions, HasOptions, rule_in, tried_for}}
use Rattle.cdm_options.specs.Helping.{IsRanking, all_helping, help_cmp, helping_at, helping_if, helping_of, is_outdone, is_refused, is_sooner, told}
use Rattle.cdm_options.specs.declared.{effect.Effect.Effect, helping.Helping.Helping, options.Options.Options}
use Rattle.cdm_options.specs.declared.effect.Effect.TheVariants.{Planned, Refused}

-- No two of those that help have one place.

only_one : (b : Bool) (x y : Helping) → Contains (if b then x ∷ [] else []) y → x ≡ y
only_one true x y i = elim (contains_cases x [] y i) [ inl e ↦ e | inr j ↦ absurd (omega (arith, j.1)) ]
only_one false x y i = absurd (omega (arith, i.1))

-- what is told of a place has it, and is one
module _ (before : Option ℕ) (k : ℕ) where
  of_place : (u : Update) (e : Effect) (a : Helping) → Contains (helping_of before k u e) a → a.place ≡ k
  of_place u (Planned (Some t) c m) a i = sym (ap (λ (h : Helping). h.place) (only_one (is_sooner before t) _ a i))
  of_place u (Planned None c m) a i = absurd (omega (arith, i.1))
  of_place u (Refused w) a i = absurd (omega (arith, i.1))

  one_of : (u : Update) (e : Effect) (a b : Helping) → Contains (helping_of before k u e) a → Contains (helping_of before k u e) b → a ≡ b
  one_of u (Planned (Some t) c m) a b i j = sym (only_one (is_sooner before t) _ a i) ∙ only_one (is_sooner before t) _ b j
  one_of u (Planned None c m) a b i j = absurd (omega (arith, i.1))
  one_of u (Refused w) a b i j = absurd (omega (arith, i.1))

  place_at : (mu : Option Update) (me : Option Effect) (a : Helping) → Contains (helping_if before k mu me) a → a.place ≡ k
  unfolding helping_if
  place_at (Some u) (Some e) a i = of_place u e a i
  place_at (Some u) None a i = absurd (omega (arith, i.1))
  place_at None me a i = absurd (omega (arith, i.1))

  one_at : (mu : Option Update) (me : Option Effect) (a b : Helping) → Contains (helping_if before k mu me) a → Contains (helping_if before k mu me) b → a ≡ b
  unfolding helping_if
  one_at (Some u) (Some e) a b i j = one_of u e a b i j
  one_at (Some u) None a b i j = absurd (omega (arith, i.1))
  one_at None me a b i j = absurd (omega (arith, i.1))

tied_places : (a b : ℕ) → nat_cmp a b ≡ Equal → a ≡ b
tied_places a b tied = grind (arith, nat_tests)

help_total : IsTotalOrder help_cmp
help_total =
    then_total (then_total (then_total
    (on_total (λ (h : Helping). h.ttot) nat_cmp_total)
    (on_total (λ (h : Helping). h.counts.blocked) nat_cmp_total))
    (on_total (λ (h : Helping). h.counts.delay) nat_cmp_total))
    (on_total (λ (h : Helping). h.place) nat_cmp_total)

module _ (before : Option ℕ) (updates : List Update) (effects : List Effect) where
  one_in_all : (a b : Helping) → Contains (all_helping before updates effects) a → Contains (all_helping before updates effects) b → a.place ≡ b.place → a ≡ b
  one_in_all a b i j same =
      let from = contains_flat (helping_at before updates effects) (range_with_len 0 (length updates)) a i in
      let others = contains_flat (helping_at before updates effects) (range_with_len 0 (length updates)) b j in
      let here : a.place ≡ from.0 = place_at before from.0 (slice_get updates from.0) (slice_get effects from.0) a from.2 in
      let there : b.place ≡ others.0 = place_at before others.0 (slice_get updates others.0) (slice_get effects others.0) b others.2 in
      let one : others.0 ≡ from.0 = sym there ∙ sym same ∙ here in
      one_at before from.0 (slice_get updates from.0) (slice_get effects from.0) a b from.2
      (subst (λ (k : ℕ). Contains (helping_at before updates effects k) b) one others.2)

  -- they have one order
  one_ranking : (xs ys : List Helping) → IsRanking (told (all_helping before updates effects)) xs → IsRanking (told (all_helping before updates effects)) ys → xs ≡ ys
  one_ranking xs ys a b =
      one_order help_total (λ (h : Helping). h) (told (all_helping before updates effects)) xs ys
      (λ x y i j tied.
      let placed = last_ties _ (nat_cmp x.place y.place) tied in
      let kept : Helping → Bool = λ h. not (is_outdone (all_helping before updates effects) h) in
      one_in_all x y (contains_all kept (all_helping before updates effects) x i) (contains_all kept (all_helping before updates effects) y j)
      (tied_places x.place y.place placed))
      a.all b.all a.best_first b.best_first

-- Options.

module _ (d : DayRecord) (runways : IsDistinct same_name (runway_names d.airport)) (flights : IsDistinct same_name (flights_in d.journal)) where
  pub one_options : (f : Flight) (role : Option Role) (x y : Options) → AreOptions d f role x → AreOptions d f role y → x ≡ y
  one_options f role x y a b =
      let plans : a.plan ≡ b.plan = one_day_plan d a.plan b.plan runways flights a.of_day b.of_day in
      let waits : AreWaits d a.plan f b.runs = subst (λ (p : Plan). AreWaits d p f b.runs) (sym plans) b.waits in
      let to = option_map_or (λ s. s.ttot) (own_slot a.plan f) 2880 in
      let runs : a.runs ≡ b.runs = waits_one (waits_for d a.plan f) to a.runs b.runs a.waits waits in
      let tried : tried_for d a.plan f a.runs role ≡ tried_for d b.plan f b.runs role = λ i. tried_for d (plans i) f (runs i) role in
      let each : AllZip (IsEffect d f.name) (tried_for d a.plan f a.runs role) b.effects =
      subst (λ (us : List Update). AllZip (IsEffect d f.name) us b.effects) (sym tried) b.of_each in
      let effects : a.effects ≡ b.effects =
      one_each (IsEffect d f.name) (one_effect d runways flights f.name) (tried_for d a.plan f a.runs role) a.effects b.effects a.of_each each in
      let before : minute_in d a.plan f.name ≡ minute_in d b.plan f.name = ap (λ (p : Plan). minute_in d p f.name) plans in
      let lists : told (all_helping (minute_in d a.plan f.name) (tried_for d a.plan f a.runs role) a.effects)
      ≡ told (all_helping (minute_in d b.plan f.name) (tried_for d b.plan f b.runs role) b.effects) =
      λ i. told (all_helping (before i) (tried i) (effects i)) in
      let ranking : IsRanking (told (all_helping (minute_in d a.plan f.name) (tried_for d a.plan f a.runs role) a.effects)) y.helping =
      subst (λ (hs : List Helping). IsRanking hs y.helping) (sym lists) b.ranking in
      let helping : x.helping ≡ y.helping =
      one_ranking (minute_in d a.plan f.name) (tried_for d a.plan f a.runs role) a.effects x.helping y.helping a.ranking ranking in
      let first : x.before ≡ y.before = a.before ∙ (before ∙ sym b.before) in
      let counts : x.counts ≡ y.counts = a.counts ∙ (ap counts_of plans ∙ sym b.counts) in
      let count : x.tried ≡ y.tried = a.tried ∙ (ap (λ (us : List Update). length us) tried ∙ sym b.tried) in
      let refused : x.refused ≡ y.refused = a.refused ∙ (ap (count_by is_refused) effects ∙ sym b.refused) in
      let flight : x.flight ≡ y.flight = a.flight ∙ sym b.flight in
      let clock : x.clock ≡ y.clock = a.clock ∙ (ap (λ (p : Plan). p.clock) plans ∙ sym b.clock) in
      let rule : x.rule ≡ y.rule = a.rule ∙ (ap (λ (p : Plan). rule_in p f.name) plans ∙ sym b.rule) in
      λ i. record { flight = flight i; clock = clock i; before = first i; rule = rule i; counts = counts i; helping = helping i; tried = count i; refused = refused i }

  -- whether or not the flight is known
  pub one_has : (known : Option Flight) (role : Option Role) (x y : Options) → HasOptions d known role x → HasOptions d known role y → x ≡ y
  one_has (Some f) role x y a b = one_options f role x y a.options b.options
  one_has None role x y a b = absurd a
