-- Runs of minutes, and how one more minute changes them.
use Rattle.std.proofs.Common.{◌≡◌, ℕ, ◌+◌, ◌<◌, ◌≤◌, List, [], ◌∷◌, ◌++◌, Option, Some, None, ◌⊎◌, inl, inr, ap, sym, ◌∙◌, refl, subst}
use Rattle.std.proofs.{Common.{append_assoc, arith}, lemmas.Grind.common_steps}
use Rattle.cdm_view.specs.{declared.reason.Reason.Reason, declared.runs.Run.Run, Runs.AreRuns, Runs.IsNextRun}

-- There is one list of runs.

-- where a run begins, there is a reason
begins : (told : ℕ → Option Reason) (from to : ℕ) (r : Run) → IsNextRun told from to r → told r.first ≡ None → ⊥
begins told from to r a none = let here : told r.first ≡ Some r.reason = a.held r.first (omega arith) a.order in cc

-- no other first run ends later
none_longer : (told : ℕ → Option Reason) (from to : ℕ) (r s : Run) → IsNextRun told from to r → IsNextRun told from to s → r.first ≡ s.first → r.reason ≡ s.reason
    → r.last < s.last → ⊥
none_longer told from to r s a b first reason h =
    a.longest (omega (arith, b.within)) (b.held (r.last + 1) (omega (arith, a.order)) (omega arith) ∙ ap Some (sym reason))

-- two first runs are one
next_one : (told : ℕ → Option Reason) (from to : ℕ) (r s : Run) → IsNextRun told from to r → IsNextRun told from to s → r ≡ s
next_one told from to r s a b = grind (arith, common_steps, begins, none_longer)

pub runs_one : (told : ℕ → Option Reason) (from to : ℕ) (xs ys : List Run) → AreRuns told from to xs → AreRuns told from to ys → xs ≡ ys
unfolding AreRuns
runs_one told from to [] [] a b = refl
runs_one told from to [] (s ∷ ys) a b =
    absurd (begins told from to s b.0 (a s.first b.0.after (omega (arith, b.0.order, b.0.within))))
runs_one told from to (r ∷ xs) [] a b =
    absurd (begins told from to r a.0 (b r.first a.0.after (omega (arith, a.0.order, a.0.within))))
runs_one told from to (r ∷ xs) (s ∷ ys) a b =
    let same : r ≡ s = next_one told from to r s a.0 b.0 in
    let rest : AreRuns told (r.last + 1) to ys = subst (λ (x : Run). AreRuns told (x.last + 1) to ys) (sym same) b.1 in
    let later : xs ≡ ys = runs_one told (r.last + 1) to xs ys a.1 rest in
    λ i. same i ∷ later i

-- One more minute.

-- a run stays as long as it can be, unless the minute after it has its reason
next_grows : (told : ℕ → Option Reason) (from m : ℕ) (r : Run) → IsNextRun told from m r → (r.last + 1 ≡ m → told m ≡ Some r.reason → ⊥)
    → IsNextRun told from (m + 1) r
next_grows told from m r a other = grind (arith, common_steps)

-- a minute without a reason changes no run
pub runs_none : (told : ℕ → Option Reason) (from m : ℕ) (runs : List Run) → AreRuns told from m runs → told m ≡ None → AreRuns told from (m + 1) runs
unfolding AreRuns
runs_none told from m [] a none = λ k after before. grind (arith, a k)
runs_none told from m (r ∷ later) a none = (next_grows told from m r a.0 (λ end e. cc), runs_none told (r.last + 1) m later a.1 none)

-- the run of one minute
abbrev pub run_at : ℕ → Reason → Run
run_at m reason = record { first = m; last = m; reason = reason }

-- it is the first run where no minute before it has a reason
run_of_one : (told : ℕ → Option Reason) (from m : ℕ) (reason : Reason) → ((k : ℕ) → from ≤ k → k < m → told k ≡ None) → from ≤ m → told m ≡ Some reason
    → IsNextRun told from (m + 1) (run_at m reason)
run_of_one told from m reason none after here = grind (arith, common_steps)

no_minute : (told : ℕ → Option Reason) (m : ℕ) → AreRuns told (m + 1) (m + 1) []
unfolding AreRuns
no_minute told m = λ k low high. absurd (omega (arith, low, high))

pub runs_first : (told : ℕ → Option Reason) (from m : ℕ) (reason : Reason) → AreRuns told from m [] → from ≤ m → told m ≡ Some reason
    → AreRuns told from (m + 1) (run_at m reason ∷ [])
unfolding AreRuns
runs_first told from m reason a after here = (run_of_one told from m reason a after here, no_minute told m)

-- where there is a run, there is a minute
some_minute : (told : ℕ → Option Reason) (from to : ℕ) (before : List Run) (r : Run) → AreRuns told from to (before ++ r ∷ []) → from < to
unfolding AreRuns
some_minute told from to [] r a = omega (arith, a.0.after, a.0.order, a.0.within)
some_minute told from to (p ∷ before) r a = omega (arith, a.0.after, a.0.order, a.0.within)

-- the last run changes with the minute as it does alone
runs_behind : (told : ℕ → Option Reason) (m : ℕ) (r : Run) (next : List Run)
    → ((k : ℕ) → AreRuns told k m (r ∷ []) → AreRuns told k (m + 1) next)
    → (from : ℕ) (before : List Run) → AreRuns told from m (before ++ r ∷ [])
    → AreRuns told from (m + 1) (before ++ next)
unfolding AreRuns
runs_behind told m r next step from [] a = step from a
runs_behind told m r next step from (p ∷ before) a =
    grind (arith, common_steps, some_minute, next_grows, runs_behind told m r next step (p.last + 1) before a.1)

-- a new run behind the others
pub runs_other : (told : ℕ → Option Reason) (from m : ℕ) (reason : Reason) (before : List Run) (r : Run) → AreRuns told from m (before ++ r ∷ []) → told m ≡ Some reason
    → (r.last + 1 ≡ m → r.reason ≡ reason → ⊥) → AreRuns told from (m + 1) ((before ++ r ∷ []) ++ run_at m reason ∷ [])
unfolding AreRuns
runs_other told from m reason before r a here other =
    subst (AreRuns told from (m + 1)) (sym (append_assoc before (r ∷ []) (run_at m reason ∷ [])))
    (runs_behind told m r (r ∷ run_at m reason ∷ []) (λ k b. (
      next_grows told k m r b.0 (λ end e. other end (cc)),
      (run_of_one told (r.last + 1) m reason b.1 (omega (arith, b.0.within)) here, no_minute told m),
    )) from before a)

-- the last run longer by the minute
pub runs_same : (told : ℕ → Option Reason) (from m : ℕ) (reason : Reason) (before : List Run) (r : Run) → AreRuns told from m (before ++ r ∷ [])
    → told m ≡ Some reason → r.reason ≡ reason → r.last + 1 ≡ m → AreRuns told from (m + 1) (before ++ record { first = r.first; last = m; reason = reason } ∷ [])
unfolding AreRuns
runs_same told from m reason before r a here same end = grind (arith, common_steps, runs_behind, no_minute)

-- no minute, and no run
pub runs_start : (told : ℕ → Option Reason) (from m : ℕ) (runs : List Run) → runs ≡ [] → m ≡ from → AreRuns told from m runs
unfolding AreRuns
runs_start told from m runs none same = subst (AreRuns told from m) (sym none) (λ k low high. absurd (omega (arith, low, high, same)))

-- where the minutes end, or where they would have ended before they began
pub runs_end : (told : ℕ → Option Reason) (from m to : ℕ) (runs : List Run) → AreRuns told from m runs → to ≤ m → (m ≡ to) ⊎ (m ≡ from) → AreRuns told from to runs
unfolding AreRuns
runs_end told from m to runs a h (inl end) = subst (λ k. AreRuns told from k runs) end a
runs_end told from m to [] a h (inr begin) = λ k low high. absurd (omega (arith, low, high, h, begin))
runs_end told from m to (r ∷ later) a h (inr begin) = absurd (omega (arith, a.0.after, a.0.order, a.0.within, begin))
