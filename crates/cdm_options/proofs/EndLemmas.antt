-- The windows of the records that are tried end before the horizon does.
use Rattle.std.proofs.Common.{◌≡◌, ℕ, zero, suc, ◌+◌, ◌*◌, ◌<◌, ◌≤◌, Bool, true, false, List, [], ◌∷◌, Option, None, Some, IfSome, All, length, min, refl, arith, lit<, ◌++◌}
use Rattle.std.proofs.lemmas.Bool.{and_parts, leb-true}
use Rattle.std.proofs.Math.Nat.{min-le_right}
use Rattle.std.proofs.lemmas.List.Elements.{All-append, All-cons, All-filter, All-head, All-map, All-nil, All-tail, All-take}
use Rattle.std.proofs.lemmas.List.Sorted.{All-permutation}
use Rattle.std.specs.{Prelude.{flat_map, if◌then◌else◌, nat_le, nat_lt, not, slice_get, ◌&&◌}, List.range_with_len, Option.option_map_or}
use Rattle.cdm_flight.specs.{declared.flight.Flight.Flight, declared.role.Role.Role, declared.update.Update.Update}
use Rattle.cdm_flight.specs.declared.update.Update.TheVariants.{Prio, Rate, Reopen, Rwy}
use Rattle.cdm_runway.specs.Rules.{RunwayRules}
use Rattle.cdm_sequence.specs.declared.{plan.Plan.Plan, plan.RunwayPlan.RunwayPlan}
use Rattle.cdm_plan.specs.Day.{DayRecord}
use Rattle.cdm_view.specs.{Load.{cap_of_cell, cells_of}, declared.runs.Run.Run}
use Rattle.cdm_options.proofs.ListLemmas.{all_flat, all_if}
use Rattle.cdm_options.specs.Tried.{EndsInTime, all_tried, ctot_tried, ctots_tried, is_allowed, is_full, is_own, may_rise, on_own, on_runway, opened, openings_tried}
use Rattle.cdm_options.specs.Tried.{own_runway, priorities_tried, priority_tried, raised, rates_tried, runway_tried, runways_tried, tried_by}
use Rattle.cdm_options.specs.Effects.{minute_in}
use Rattle.cdm_options.specs.Helping.{all_helping, helping_at, helping_if, helping_of, is_outdone, is_sooner, told}
use Rattle.cdm_options.specs.Options.{AreOptions, tried_for}
use Rattle.cdm_options.specs.declared.{effect.Effect.Effect, helping.Helping.Helping, options.Options.Options}
use Rattle.cdm_options.specs.declared.effect.Effect.TheVariants.{Planned, Refused}

all_else : {X : Type 0} (P : X → Type 0) (b : Bool) (x : X) → P x → All P (if b then [] else x ∷ [])
all_else P true x holds = All-nil P
all_else P false x holds = All-cons P x [] holds (All-nil P)

opened_ends : (r : List ℕ) (run : Run) → All EndsInTime (opened r run)
opened_ends r run = all_if EndsInTime _ (Reopen r run.first (min (run.last + 1) 2879)) (λ is.
    let cut : min (run.last + 1) 2879 ≤ 2879 = min-le_right (run.last + 1) 2879 in omega arith)

raised_ends : (rules : RunwayRules) (runs : List Run) (k : ℕ) → All EndsInTime (raised rules runs k)
raised_ends rules runs k =
    all_if EndsInTime (may_rise rules runs k) (Rate rules.name (k * rules.cell) (k * rules.cell + rules.cell) (cap_of_cell rules k + 1)) (λ is.
    let ends : Bool = nat_le (k * rules.cell + rules.cell) 2879 in
    let small : Bool = nat_lt (cap_of_cell rules k) 60 in
    let parts = and_parts (ends && small) (is_full runs (k * rules.cell) (k * rules.cell + rules.cell)) is in
    let first = and_parts ends small parts.0 in
    let order : k * rules.cell + rules.cell ≤ 2879 = leb-true (k * rules.cell + rules.cell) 2879 first.0 in
    omega arith)

on_ends : (runs : List Run) (rules : Option RunwayRules) → All EndsInTime (option_map_or (on_runway runs) rules [])
on_ends runs None = All-nil EndsInTime
on_ends runs (Some rules) =
    All-append EndsInTime (openings_tried rules.name runs) (rates_tried rules runs)
    (All-take EndsInTime 8 (flat_map (opened rules.name) runs) (all_flat EndsInTime (opened rules.name) (opened_ends rules.name) runs))
    (All-take EndsInTime 16 (flat_map (raised rules runs) (cells_of rules)) (all_flat EndsInTime (raised rules runs) (raised_ends rules runs) (cells_of rules)))

priorities_end : (f : Flight) → All EndsInTime (priorities_tried f)
priorities_end f = All-map EndsInTime (priority_tried f) (range_with_len 0 f.priority) (λ k d l. lit< tt)

ctots_end : (f : Flight) (ctot : Option ℕ) → All EndsInTime (option_map_or (λ c. ctot_tried f ∷ []) ctot [])
ctots_end f None = All-nil EndsInTime
ctots_end f (Some c) = All-cons EndsInTime (ctot_tried f) [] (lit< tt) (All-nil EndsInTime)

tried_ends : (d : DayRecord) (plan : Plan) (f : Flight) (runs : List Run) (role : Option Role) → All EndsInTime (tried_for d plan f runs role)
unfolding all_tried
tried_ends d plan f runs role =
    All-filter (is_allowed role) EndsInTime (all_tried d plan f runs)
    (All-take EndsInTime 64 (priorities_tried f ++ runways_tried f plan ++ ctots_tried f ++ on_own d f runs)
    (All-append EndsInTime (priorities_tried f ++ runways_tried f plan ++ ctots_tried f) (on_own d f runs)
    (All-append EndsInTime (priorities_tried f ++ runways_tried f plan) (ctots_tried f)
    (All-append EndsInTime (priorities_tried f) (runways_tried f plan) (priorities_end f)
    (all_flat EndsInTime (runway_tried f) (λ p. all_else EndsInTime (is_own f p.runway) (Rwy f.name p.runway) (lit< tt)) plan.runways))
    (ctots_end f f.ctot))
    (on_ends runs (own_runway d f))))

-- and so do those of the records that help.

abbrev Helps : Helping → Type 0
Helps h = EndsInTime h.update

taken_ends : (us : List Update) (k : ℕ) → All EndsInTime us → IfSome (slice_get us k) EndsInTime
taken_ends [] k all = tt
taken_ends (u ∷ us) zero all = All-head EndsInTime u us all
taken_ends (u ∷ us) (suc k) all = taken_ends us k (All-tail EndsInTime u us all)

of_ends : (before : Option ℕ) (k : ℕ) (u : Update) (e : Effect) → EndsInTime u → All Helps (helping_of before k u e)
of_ends before k u (Planned (Some t) c m) ends = all_if Helps (is_sooner before t) _ (λ is. ends)
of_ends before k u (Planned None c m) ends = All-nil Helps
of_ends before k u (Refused w) ends = All-nil Helps

at_ends : (before : Option ℕ) (k : ℕ) (mu : Option Update) (me : Option Effect) → IfSome mu EndsInTime
    → All Helps (helping_if before k mu me)
unfolding helping_if
at_ends before k None me ends = All-nil Helps
at_ends before k (Some u) None ends = All-nil Helps
at_ends before k (Some u) (Some e) ends = of_ends before k u e ends

all_end : (before : Option ℕ) (us : List Update) (es : List Effect) → All EndsInTime us → All Helps (all_helping before us es)
all_end before us es all =
    all_flat Helps (helping_at before us es) (λ k. at_ends before k (slice_get us k) (slice_get es k) (taken_ends us k all)) (range_with_len 0 (length us))

pub helping_ends : (d : DayRecord) (f : Flight) (role : Option Role) (o : Options) → AreOptions d f role o → All (λ h. EndsInTime h.update) o.helping
helping_ends d f role o a =
    let us = tried_for d a.plan f a.runs role in
    let before = minute_in d a.plan f.name in
    All-permutation Helps (told (all_helping before us a.effects)) o.helping a.ranking.all
    (All-filter (λ h. not (is_outdone (all_helping before us a.effects) h)) Helps (all_helping before us a.effects)
    (all_end before us a.effects (tried_ends d a.plan f a.runs role)))
