-- Lines of scenarios, some at a time.
use Rattle.cdm_table.proofs.Words.{◌≡◌, ◌∙◌, ◌++◌, ℕ, List, [], ◌∷◌, sym, ap, subst, append_assoc, append-nil, AllZip, concat, DayRecord}
use Rattle.cdm_table.{proofs.Words.ScenarioRecord, specs.Plans.IsScenarioLine, specs.inner.Lines.HasLinesOf}
use Rattle.std.proofs.lemmas.List.Folds.{concat-append}

zip-append : {A B : Type 0} (R : A → B → Type 0) (xs : List A) (ys : List B) (more : List A) (others : List B)
    → AllZip R xs ys → AllZip R more others → AllZip R (xs ++ more) (ys ++ others)
zip-append R [] [] more others first later = later
zip-append R (x ∷ xs) (y ∷ ys) more others first later = (first.0, zip-append R xs ys more others first.1 later)
zip-append R _ _ more others first later = absurd first

module _ (d : DayRecord) (all : List ScenarioRecord) (before : List ℕ) where
  -- these scenarios are left of all, and the text has the lines of those before them
  pub record Leaves (left : List ScenarioRecord) (text : List ℕ) : Type 0 where
    pub done : List (List ℕ)
    pub later : (answers : List (List ℕ)) → AllZip (IsScenarioLine d) left answers → AllZip (IsScenarioLine d) all (done ++ answers)
    pub bytes : text ≡ before ++ concat done

  pub leaves_all : (text : List ℕ) → text ≡ before → Leaves all text
  leaves_all text same = record { done = []; later = λ answers h. h; bytes = same ∙ sym (append-nil before) }

  -- some more
  pub leaves_others : (left first others : List ScenarioRecord) (text next : List ℕ) (answers : List (List ℕ)) → Leaves left text
      → left ≡ first ++ others → AllZip (IsScenarioLine d) first answers → next ≡ text ++ concat answers → Leaves others next
  leaves_others left first others text next answers l split each wrote = record {
    done = l.done ++ answers;
    later = λ more h.
        let these : AllZip (IsScenarioLine d) left (answers ++ more) =
        subst (λ (s : List ScenarioRecord). AllZip (IsScenarioLine d) s (answers ++ more)) (sym split) (zip-append (IsScenarioLine d) first answers others more each h) in
        subst (AllZip (IsScenarioLine d) all) (sym (append_assoc l.done answers more)) (l.later (answers ++ more) these);
    bytes = wrote ∙ ap (λ (t : List ℕ). t ++ concat answers) l.bytes ∙ append_assoc before (concat l.done) (concat answers)
        ∙ ap (λ (t : List ℕ). before ++ t) (sym (concat-append l.done answers));
  }

  -- all
  pub leaves_none : (left : List ScenarioRecord) (text : List ℕ) → Leaves left text → left ≡ [] → HasLinesOf d all before text
  leaves_none left text l none = record {
    answers = l.done;
    of_scenarios = subst (AllZip (IsScenarioLine d) all) (append-nil l.done) (l.later [] (subst (λ (s : List ScenarioRecord). AllZip (IsScenarioLine d) s []) (sym none) tt));
    bytes = l.bytes;
  }
