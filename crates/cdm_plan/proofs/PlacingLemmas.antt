-- One placing of a day, from those of its runways.
use Rattle.std.proofs.Common.{◌≡◌, ℕ, Bool, true, false, cond, ◌||◌, List, ◌∷◌, None, sym, ◌∙◌, ap, refl, map, []}
use Rattle.cdm_plan.proofs.ListWords.{All, AllByRecursion, AllZip, Contains, IsDistinct, list_any, false≢true, All-cons, All-contains}
use Rattle.cdm_plan.proofs.ListWords.{All-head, All-nil, All-tail, filter_passes, IsDistinct-head, IsDistinct-tail, contains_all}
use Rattle.cdm_plan.proofs.ListWords.{contains_kept}
use Rattle.cdm_plan.proofs.PlanWords.{same_name, RunwayRules, Slot, takeoffs, Placing, IsAllowed, IsEarlier, IsSequence, IsSequenceBy}
use Rattle.cdm_plan.proofs.PlanWords.{RunwayPlan, Target, is_same, same_flips, same_is, targets_on}
use Rattle.cdm_sequence.proofs.{PlanLemmas.{none_earlier, plan_allowed}, OneLemmas.sequence_agree}

module _ (fixed : List ℕ → List Slot) (targets : List Target) where
  abbrev on : List ℕ → List Target
  on r = targets_on r targets

  abbrev pub IsSequenced : RunwayRules → RunwayPlan → Type 0
  IsSequenced r p = IsSequence r (fixed r.name) (on r.name) p

  abbrev pub IsSequencedBy : Placing → RunwayRules → RunwayPlan → Type 0
  IsSequencedBy placing r p = IsSequenceBy placing r (fixed r.name) (on r.name) p

  on_it : (r : List ℕ) (f : Target) → Contains (on r) f → f.runway ≡ r
  on_it r f i = same_is f.runway r (All-contains (λ f. same_name f.runway r ≡ true) (on r) f (filter_passes (λ f. same_name f.runway r) targets) i)

  -- each flight by the placing of its runway
  pub placing_of : (rs : List RunwayRules) (ps : List RunwayPlan) → AllZip IsSequenced rs ps → Placing
  placing_of [] ps all f = None
  placing_of (r ∷ rs) [] all f = None
  placing_of (r ∷ rs) (p ∷ ps) all f = cond (same_name f.runway r.name) (all.0.0 f) (placing_of rs ps all.1 f)

  -- placings that differ on one runway alone are alike on the others
  others_keep : (p q : Placing) (name : List ℕ) (rs : List RunwayRules) (ps : List RunwayPlan)
      → AllByRecursion (λ n. same_name name n ≡ false) (map (λ r. r.name) rs)
      → ((f : Target) → same_name f.runway name ≡ false → p f ≡ q f) → AllZip (IsSequencedBy p) rs ps → AllZip (IsSequencedBy q) rs ps
  others_keep p q name [] [] apart same all = tt
  others_keep p q name (r ∷ rs) (x ∷ ps) apart same all = (
    sequence_agree p q r (fixed r.name) (on r.name) x (λ f i. same f (ap (λ (n : List ℕ). same_name n name) (on_it r.name f i) ∙ same_flips r.name name ∙ apart.0)) all.0,
    others_keep p q name rs ps apart.1 same all.1,
  )
  others_keep p q name _ _ apart same all = absurd all

  -- sequences of the runways are sequences by it
  pub placed : (rs : List RunwayRules) (ps : List RunwayPlan) → IsDistinct same_name (map (λ r. r.name) rs) → (all : AllZip IsSequenced rs ps)
      → AllZip (IsSequencedBy (placing_of rs ps all)) rs ps
  unfolding placing_of
  placed [] [] own all = tt
  placed (r ∷ rs) (x ∷ ps) own all =
      let rest = placing_of rs ps all.1 in
      let here = all.0.0 in
      let whole : Placing = λ f. cond (same_name f.runway r.name) (here f) (rest f) in
      let names = map (λ (r : RunwayRules). r.name) rs in (
        sequence_agree here whole r (fixed r.name) (on r.name) x (λ f i. sym (ap (λ (b : Bool). cond b (here f) (rest f)) (is_same f.runway r.name (on_it r.name f i)))) all.0.1,
        others_keep rest whole r.name rs ps (IsDistinct-head same_name r.name names own) (λ f e. sym (ap (λ (b : Bool). cond b (here f) (rest f)) e))
            (placed rs ps (IsDistinct-tail same_name r.name names own) all.1),
      )
  placed _ _ own all = absurd all

  -- the placing is allowed on the runway
  abbrev Allows : Placing → RunwayRules → Type 0
  Allows p r = IsAllowed r (takeoffs r (fixed r.name)) (on r.name) p

  -- a plan's is, on each runway
  pub allowed_on : (p : Placing) (rs : List RunwayRules) (ps : List RunwayPlan) → ((r : List ℕ) → IsDistinct same_name (map (λ f. f.key.name) (on r)))
      → AllZip (IsSequencedBy p) rs ps → All (λ r. IsAllowed r (takeoffs r (fixed r.name)) (on r.name) p) rs
  allowed_on p [] ps own all = All-nil (Allows p)
  allowed_on p (r ∷ rs) [] own all = absurd all
  allowed_on p (r ∷ rs) (x ∷ ps) own all =
      All-cons (Allows p) r rs (plan_allowed r (takeoffs r (fixed r.name)) (on r.name) p (own r.name) all.0.minutes) (allowed_on p rs ps own all.1)

  -- and none that is allowed is earlier
  pub none_earlier_on : (p q : Placing) (rs : List RunwayRules) (ps : List RunwayPlan) → AllZip (IsSequencedBy p) rs ps
      → All (λ r. IsAllowed r (takeoffs r (fixed r.name)) (on r.name) q) rs
      → (e : IsEarlier targets q p) → list_any (λ n. same_name n e.first.runway) (map (λ r. r.name) rs) ≡ true → ⊥
  none_earlier_on p q [] ps all allowed e known = false≢true known
  none_earlier_on p q (r ∷ rs) [] all allowed e known = absurd all
  none_earlier_on p q (r ∷ rs) (x ∷ ps) all allowed e known =
      go (same_name r.name e.first.runway) refl (none_earlier_on p q rs ps all.1 (All-tail (Allows q) r rs allowed) e) known
    where
      among : Bool
      among = list_any (λ n. same_name n e.first.runway) (map (λ r. r.name) rs)

      here : Target → Bool
      here f = same_name f.runway r.name

      go : (b : Bool) → same_name r.name e.first.runway ≡ b → (among ≡ true → ⊥) → (b || among) ≡ true → ⊥
      go true h others k = none_earlier r (takeoffs r (fixed r.name)) (on r.name) p q all.0.minutes (All-head (Allows q) r rs allowed) record {
        first = e.first;
        among = contains_kept here targets e.first e.among (same_flips e.first.runway r.name ∙ h);
        sooner = e.sooner;
        agree = λ g i. e.agree g (contains_all here targets g i);
      }
      go false h others k = others k
