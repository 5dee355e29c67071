-- A day has one outcome by further updates.
use Rattle.std.proofs.Common.{◌≡◌, ℕ, zero, suc, ◌+◌, ◌<◌, ◌≤◌, take, length, get_or, Option, None, Some, List, [], ◌∷◌, refl}
use Rattle.std.proofs.Common.{◌++◌, sym, ap, ◌∙◌, subst, add-one, inl, inr, arith}
use Rattle.std.specs.Prelude.{slice_get}
use Rattle.std.specs.Option.{option_and_then}
use Rattle.std.specs.List.{AllZip, cons_option, IsDistinct}
use Rattle.std.proofs.lemmas.Bool.{cases_lt}
use Rattle.std.proofs.lemmas.List.{append_assoc, append-nil}
use Rattle.std.proofs.lemmas.Option.{slice_get-get_or}
use Rattle.cdm_flight.specs.declared.update.Update.{Update}
use Rattle.cdm_flight.specs.declared.update.Update.TheVariants.{Clock}
use Rattle.cdm_flight.specs.declared.word.RefusalWord.{RefusalWord}
use Rattle.cdm_flight.specs.Names.{same_name}
use Rattle.cdm_flight.specs.Accepted.{refusal_of}
use Rattle.cdm_report.specs.Counts.{counts_of}
use Rattle.cdm_plan.specs.Airport.{runway_names}
use Rattle.cdm_plan.specs.Day.{DayRecord, flights_in, with_update}
use Rattle.cdm_plan.proofs.JournalFacts.{names_after}
use Rattle.cdm_plan.proofs.NameLemmas.{all_taken, take-next}
use Rattle.cdm_plan.proofs.OnePlanLemmas.{one_day_plan}
use Rattle.cdm_scenario.specs.Overlay.{with_updates}
use Rattle.cdm_scenario.specs.Outcome.{AreTaken, IsOutcome, word_at}
use Rattle.cdm_scenario.specs.declared.outcome.Outcome.{Outcome}
use Rattle.cdm_scenario.specs.declared.outcome.Outcome.TheVariants.{Planned, Refused}

module _ (d : DayRecord) (us : List Update) where
  pub no_more : d ≡ with_updates d (take 0 us)
  no_more = λ i. record { airport = d.airport; journal = sym (append-nil d.journal) i }

  pub one_more : (k : ℕ) (u : Update) → slice_get us k ≡ Some u → with_update (with_updates d (take k us)) u ≡ with_updates d (take (k + 1) us)
  one_more k u at = λ i. record { airport = d.airport; journal = longer i }
    where
      longer : (d.journal ++ take k us) ++ u ∷ [] ≡ d.journal ++ take (k + 1) us
      longer = append_assoc d.journal (take k us) (u ∷ []) ∙ ap (λ l. d.journal ++ l) (sym (take-next us k ∙ ap (λ o. take k us ++ cons_option o []) at))

  -- the flights of the day with updates that no word refuses have names of their own
  names_so_far : IsDistinct same_name (flights_in d.journal) → AreTaken d us (length us) → (k : ℕ) → k ≤ length us → IsDistinct same_name (flights_in (d.journal ++ take k us))
  names_so_far own taken zero h = subst (λ (x : DayRecord). IsDistinct same_name (flights_in x.journal)) no_more own
  names_so_far own taken (suc k) h =
      let u = get_or us k (Clock 0) in
      let at : slice_get us k ≡ Some u = slice_get-get_or us k (Clock 0) (omega arith) in
      let none : refusal_of d.airport (d.journal ++ take k us) u ≡ None = sym (ap (option_and_then (refusal_of d.airport (d.journal ++ take k us))) at) ∙ taken k (omega arith) in
      subst (λ (x : DayRecord). IsDistinct same_name (flights_in x.journal)) (one_more k u at ∙ ap (λ n. with_updates d (take n us)) (add-one k))
      (names_after d.airport (d.journal ++ take k us) u none (names_so_far own taken k (omega arith)))

  -- and with all of them
  pub names_with_all : IsDistinct same_name (flights_in d.journal) → AreTaken d us (length us) → IsDistinct same_name (flights_in (d.journal ++ us))
  names_with_all own taken =
      subst (λ (l : List Update). IsDistinct same_name (flights_in (d.journal ++ l))) (all_taken us (length us) (omega arith)) (names_so_far own taken (length us) (omega arith))

  within : (f : Update → Option RefusalWord) (xs : List Update) (k : ℕ) (w : RefusalWord) → option_and_then f (slice_get xs k) ≡ Some w → k < length xs
  within f [] k w h = cc
  within f (x ∷ xs) zero w h = omega arith
  within f (x ∷ xs) (suc k) w h = let rest : k < length xs = within f xs k w h in omega arith

  taken_before : (n k : ℕ) (w : RefusalWord) → AreTaken d us n → word_at d us k ≡ Some w → k < n → ⊥
  taken_before n k w taken refused h = let none = taken k h in cc

  refused_in : (k : ℕ) (w : RefusalWord) → AreTaken d us (length us) → word_at d us k ≡ Some w → ⊥
  refused_in k w taken refused = taken_before (length us) k w taken refused (within (refusal_of d.airport (d.journal ++ take k us)) us k w refused)

  pub one_outcome : IsDistinct same_name (runway_names d.airport) → IsDistinct same_name (flights_in d.journal) → (x y : Outcome) → IsOutcome d us x → IsOutcome d us y → x ≡ y
  one_outcome runways own (Planned p m) (Planned q n) a b =
      let plan : p ≡ q = one_day_plan (with_updates d us) p q runways (names_with_all own a.0) a.1 b.1 in
      let counts : m ≡ n = a.2 ∙ (ap counts_of plan ∙ sym b.2) in
      λ i. Planned (plan i) (counts i)
  one_outcome runways own (Planned p m) (Refused n w) a b = absurd (refused_in b.0 w a.0 b.1.2)
  one_outcome runways own (Refused n w) (Planned p m) a b = absurd (refused_in a.0 w b.0 a.1.2)
  one_outcome runways own (Refused n w) (Refused m v) a b = elim (cases_lt a.0 b.0) [
    | inl less ↦ absurd (taken_before b.0 a.0 w b.1.1 a.1.2 less)
    | inr more ↦ elim (cases_lt b.0 a.0) [
      | inl less ↦ absurd (taken_before a.0 b.0 v a.1.1 b.1.2 less)
      | inr no_less ↦
          let same : a.0 ≡ b.0 = omega arith in
          let words : Some w ≡ Some v = sym a.1.2 ∙ (ap (word_at d us) same ∙ b.1.2) in
          let word : w ≡ v = cc in
          let number : n ≡ m = a.1.0 ∙ (ap (λ k. k + 1) same ∙ sym b.1.0) in
          λ i. Refused (number i) (word i)
    ]
  ]

-- where each item has one answer, a list of items has one list of answers
pub one_each : {X Y : Type 0} (R : X → Y → Type 0) → ((x : X) (y z : Y) → R x y → R x z → y ≡ z)
    → (xs : List X) (ys zs : List Y) → AllZip R xs ys → AllZip R xs zs → ys ≡ zs
one_each R one [] [] [] a b = refl
one_each {X} {Y} R one (x ∷ xs) (y ∷ ys) (z ∷ zs) a b =
    ap (λ (v : Y). v ∷ ys) (one x y z a.0 b.0) ∙ ap (λ vs. z ∷ vs) (one_each R one xs ys zs a.1 b.1)
one_each R one [] (y ∷ ys) zs a b = absurd a
one_each R one [] [] (z ∷ zs) a b = absurd b
one_each R one (x ∷ xs) [] zs a b = absurd a
one_each R one (x ∷ xs) (y ∷ ys) [] a b = absurd b
