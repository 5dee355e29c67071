-- What a load keeps of the minutes that were taken, and whom a flight meets.
use Rattle.cdm_runway.proofs.Words.{◌≡◌, ◌≢◌, ◌⊎◌, ℕ, ◌+◌, ◌-◌, ◌<◌, ◌≤◌, max, min, MatchOption, Option, List, [], ◌∷◌, ◌++◌, length, set}
use Rattle.cdm_runway.proofs.Words.{subst, sym, ap, ◌∙◌, inl, inr, arith, slice_index, get_or-set_at, common_steps, get_or-set_other}
use Rattle.cdm_runway.proofs.Words.{length-set, All-push, All-weaker, Contains-append_left, Contains-append_right, Group}
use Rattle.cdm_runway.specs.{Rules.RunwayRules, Room.IsSpaced, declared.load.Taken.Taken, inner.Tally.{AreLongest, EndsBy, IsReach}}
use Rattle.std.specs.List.{Contains}
use Rattle.cdm_flight.{proofs.Lists.contains_head, specs.Spacing.occupancy_of}

-- a number that grows at one place is nowhere less
grows : (xs : List ℕ) (i v k : ℕ) → i < length xs → slice_index xs i ≤ v → slice_index xs k ≤ slice_index (set xs i v) k
grows xs i v k within more = grind (arith, common_steps)

-- one more is taken
pub longest-push : (taken : List Taken) (t : Taken) (longest : List ℕ) (v : ℕ) → AreLongest taken longest → t.minute < 2880 → t.occupancy ≤ 5
    → v ≡ max (slice_index longest t.minute) t.occupancy → AreLongest (taken ++ t ∷ []) (set longest t.minute v)
longest-push taken t longest v kept inside short is =
    let after = set longest t.minute v in
    let within : t.minute < length longest = omega (arith, kept.minutes) in
    let here : slice_index after t.minute ≡ v = get_or-set_at longest t.minute t.minute v 0 (omega arith) within in
    record {
      minutes = length-set longest t.minute v ∙ kept.minutes;
      within = All-push (λ (s : Taken). (s.minute < 2880) × (s.occupancy ≤ 5)) taken t kept.within (inside, short);
      covers = All-push (λ (s : Taken). s.occupancy ≤ slice_index after s.minute) taken t
          (All-weaker (λ (s : Taken). s.occupancy ≤ slice_index longest s.minute) (λ (s : Taken). s.occupancy ≤ slice_index after s.minute)
          (λ s h. omega (arith, grows longest t.minute v s.minute within (omega (arith, is)))) taken kept.covers)
          (omega (arith, here, is));
      some = λ k below more.
          let same : (k ≡ t.minute) ⊎ (k ≢ t.minute) = grind arith in
          elim same [
            | inl e ↦
                let there : slice_index after k ≡ v = ap (slice_index after) e ∙ here in
                let longer : (v ≡ slice_index longest t.minute) ⊎ (v ≡ t.occupancy) = grind (arith, is) in
                elim longer [
                  | inl old ↦
                      let was : slice_index longest k ≡ slice_index after k = ap (slice_index longest) e ∙ sym old ∙ sym there in
                      let i = kept.some k below (omega (arith, was)) in
                      Contains-append_left taken (t ∷ []) _ (subst (λ (n : ℕ). Contains taken (record { minute = k; occupancy = n })) was i)
                  | inr own ↦
                      let it : t ≡ record { minute = k; occupancy = slice_index after k } =
                      λ i. record { minute = sym e i; occupancy = (sym own ∙ sym there) i } in
                      Contains-append_right taken (t ∷ []) _ (subst (Contains (t ∷ [])) it (contains_head t []))
                ]
            | inr e ↦
                let was : slice_index longest k ≡ slice_index after k = sym (get_or-set_other longest t.minute k v 0 e) in
                let i = kept.some k below (omega (arith, was)) in
                Contains-append_left taken (t ∷ []) _ (subst (λ (n : ℕ). Contains taken (record { minute = k; occupancy = n })) was i)
          ];
    }

module _ (r : RunwayRules) (taken : List Taken) (longest : List ℕ) (group : Group) (m : ℕ) (kept : AreLongest taken longest) where
  -- so the end of what reaches beyond the minute tells whom it meets
  pub met_either : 0 < occupancy_of r.spacing group → (found : Option ℕ)
      → MatchOption found (EndsBy longest m (m - 4) (min 2880 (m + occupancy_of r.spacing group))) (IsReach longest m (min 2880 (m + occupancy_of r.spacing group)))
      → MatchOption found (IsSpaced r taken group m) (λ end. (m < end) × ((k : ℕ) → m ≤ k → k < end → IsSpaced r taken group k → ⊥))
  met_either some found ends = grind (arith, common_steps)
