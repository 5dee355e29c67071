use Rattle.std.proofs.Common.{inl, inr, ◌≡◌, ◌≤◌, ◌<◌, ◌+◌, ℕ, Bool, true, false, ◌==◌, List, [], ◌∷◌, refl, sym, ◌∙◌, arith, IsTrue}
use Rattle.std.{proofs.Common.count_by, proofs.lemmas.{Bool.ne_eqb, Bool.Decides.leb_tells, List.Elements.All-tail}, specs.List.All}
use Rattle.cdm_board.specs.History.{Call, DeskRecord, calls_of, receipts_of, IsDesk, IsMerge}

calls-none : (d : ℕ) (h : List (ℕ × Call)) → All (λ (e : ℕ × Call). IsDesk e.0) h → 16 < d → calls_of d h ≡ []
calls-none d [] all far = refl
calls-none d (e ∷ es) all far =
    let here : IsDesk e.0 = all 0 e (omega arith) in
    rw (ne_eqb e.0 d (omega arith)) (calls-none d es (All-tail (λ (x : ℕ × Call). IsDesk x.0) e es all) far)

receipts-none : (d n : ℕ) (ks : List DeskRecord) → All (λ (k : DeskRecord). (1 ≤ k.number) × (k.number ≤ n)) ks → n < d → receipts_of d ks ≡ []
receipts-none d n [] all far = refl
receipts-none d n (k ∷ ks) all far =
    let here : (1 ≤ k.number) × (k.number ≤ n) = all 0 k (omega arith) in
    rw (ne_eqb k.number d (omega arith)) (receipts-none d n ks (All-tail (λ (x : DeskRecord). (1 ≤ x.number) × (x.number ≤ n)) k ks all) far)

-- where the numbers up to 16 agree, all do
pub merge-all : (n : ℕ) (h : List (ℕ × Call)) (ks : List DeskRecord) → n ≤ 16 → All (λ (e : ℕ × Call). IsDesk e.0) h
    → All (λ (k : DeskRecord). (1 ≤ k.number) × (k.number ≤ n)) ks → ((e : ℕ) → e < 17 → calls_of e h ≡ receipts_of e ks) → IsMerge h ks
merge-all n h ks le entries desks below d =
    elim (leb_tells 17 d) [
      | inl far ↦ (let lt : 16 < d = omega (arith, far.1) in calls-none d h entries lt ∙ sym (receipts-none d n ks desks (omega arith)))
      | inr near ↦ below d near.1
    ]

pub not_so : {P : Type 0} → (r : Bool) → r ≡ false → (P → IsTrue r) → P → ⊥
not_so r never so p = (let yes : r ≡ true = so p in cc)

pub once-more : (n : ℕ) (ks : List DeskRecord) (c : ℕ) → c ≡ count_by (λ k. k.number == (n + 1)) ks → c ≡ 1
    → ((d : ℕ) → 1 ≤ d → d ≤ n → count_by (λ (k : DeskRecord). k.number == d) ks ≡ 1) → (d : ℕ) → 1 ≤ d → d ≤ n + 1
    → count_by (λ (k : DeskRecord). k.number == d) ks ≡ 1
once-more n ks c is one below d low high =
    elim (leb_tells d n) [
      | inl before ↦ below d low before.1
      | inr after ↦
          (let e : d ≡ n + 1 = omega (arith, after.1) in
          rw e (sym is ∙ one))
    ]
