-- How the indicators grow by one more slot or runway.
use Rattle.std.proofs.Common.{ℕ, suc, ◌≡◌, ◌+◌, ◌<◌, List, [], ◌∷◌, ◌++◌, length, get_or, take, Option, ap, sym, ◌∙◌, arith, fold, max}
use Rattle.std.proofs.{Common.{cond, add-zero, zero-add, ◌≤◌}, lemmas.List.{take_more, take_all}, lemmas.List.Elements.filter_map-append}
use Rattle.std.{proofs.lemmas.List.Sums.fold-append, specs.Prelude.nat_lt, specs.List.{cons_option, flat_map}}
use Rattle.cdm_sequence.specs.declared.{plan.Plan.Plan, plan.RunwayPlan.RunwayPlan, slot.Slot.Slot}
use Rattle.cdm_report.specs.{declared.counts.Counts.Counts, Counts.{counts_of, delays_of}}
use Rattle.cdm_report.specs.inner.Counting.{delays_in, only_blocked, with_delay}

-- one more slot
pub fold-delays_in_more : (counts : Counts) (slots : List Slot) (i : ℕ) (slot : Slot) (delay : Option ℕ) → i < length slots → slot ≡ get_or slots i slot → slot.delay ≡ delay
    → fold with_delay counts (delays_in (take (i + 1) slots)) ≡ fold with_delay (fold with_delay counts (delays_in (take i slots))) (cons_option delay [])
fold-delays_in_more counts slots i slot delay h at is =
    ap (λ xs. fold with_delay counts (delays_in xs)) (take_more slots i slot h ∙ ap (λ s. take i slots ++ s ∷ []) (sym at))
    ∙ ap (fold with_delay counts) (filter_map-append (λ s. s.delay) (take i slots) (slot ∷ []) ∙ ap (λ d. delays_in (take i slots) ++ cons_option d []) is)
    ∙ fold-append with_delay counts (delays_in (take i slots)) (cons_option delay [])

-- what counting in a list of delays gives
pub fold-with_delay : (c : Counts) (ds : List ℕ) → fold with_delay c ds ≡ record c {
  placed = c.placed + length ds;
  delay = fold (λ a x. a + x) c.delay ds;
  greatest = fold max c.greatest ds;
  late = fold (λ a x. a + cond (nat_lt 15 x) 1 0) c.late ds;
}
fold-with_delay c [] = λ i. record c { placed = sym (add-zero c.placed) i }
fold-with_delay c (d ∷ ds) = fold-with_delay (with_delay c d) ds ∙ (λ i. record (with_delay c d) {
  placed = one_more c.placed (length ds) i;
  delay = fold (λ a x. a + x) (c.delay + d) ds;
  greatest = fold max (max c.greatest d) ds;
  late = fold (λ a x. a + cond (nat_lt 15 x) 1 0) (c.late + cond (nat_lt 15 d) 1 0) ds;
})
  where
    one_more : (a n : ℕ) → a + 1 + n ≡ a + suc n
    one_more a n = omega arith

-- all delays counted in, after the blocked flights, give the indicators
pub counted-is-counts_of : (plan : Plan) (counts start : Counts) (runways : List RunwayPlan) (i : ℕ)
    → start ≡ only_blocked plan.blocked → runways ≡ plan.runways → length runways ≤ i
    → counts ≡ fold with_delay start (flat_map (λ r. delays_in r.slots) (take i runways)) → counts ≡ counts_of plan
unfolding counts_of
counted-is-counts_of plan counts start runways i blocked same all counted =
    counted
    ∙ ap (λ c. fold with_delay c (flat_map (λ (r : RunwayPlan). delays_in r.slots) (take i runways))) blocked
    ∙ ap (λ rs. fold with_delay (only_blocked plan.blocked) (flat_map (λ (r : RunwayPlan). delays_in r.slots) rs)) (take_all i runways all ∙ same)
    ∙ fold-with_delay (only_blocked plan.blocked) (delays_of plan)
    ∙ (λ i. record (counts_of plan) { placed = zero-add (length (delays_of plan)) i })
