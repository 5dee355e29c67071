use Rattle.std.proofs.Common.{◌≡◌, ◌≤◌, ◌<◌, ◌∙◌, ◌++◌, ℕ, List, [], Vec, Global, length, map, take, unwrap_or, sym, ap, subst, arith}
use Rattle.std.{proofs.Common.if◌then◌else◌, specs.Option.option_copied}
use Rattle.cdm_flight.specs.{Journal.AirportRows, declared.word.RefusalWord.RefusalWord}
use Rattle.cdm_files.specs.{FeedDay.refusals_in, ScenarioFile.scenarios_in}
use Rattle.cdm_check.specs.{Check.AreLinesOf, Findings.{fault_at, finding, is_no_feed, listed}}
use Rattle.cdm_check.proofs.LineLemmas.{counted, one_fault, with_room, without_room}
use Rattle.cdm_check.proofs.check_run.told_of_judged.Goals.{then-listed-lt-MOST_TOLD+in_ok-extend_from_slice, else-listed-lt-MOST_TOLD}
use Rattle.cdm_check.proofs.check_run.told_of_judged.Goals as goal

pub returns-clause-lines : goal.returns-clause-lines
returns-clause-lines c =
    let path = c.args.paths.feed.now in
    let behind_path = unwrap_or (option_copied c.args.paths.scenarios) [] in
    let bytes = c.args.inputs.now.second.items in
    let scenarios = c.args.inputs.now.third.items in
    let refusals = refusals_in c.args.judged.now.state.airport bytes in
    let refused = listed bytes refusals in
    let said = scenarios_in c.args.judged.now.state.airport.day scenarios in
    let lines = c.in_ok-lines.lines.items in
    let behind = c.in_ok-scenario.scenario.lines.items in
    let judged : c.deref.result.now ≡ refusals = c.deref.ensures.value ∙ c.requires in
    let stood_for = c.is_some.ensures ∙ c.in_ok-standing.ensures ∙ ap is_no_feed c.deref-feed.ensures.value in
    let is : c.listed-listed.result.now ≡ refused = c.listed-listed.ensures ∙ (λ i. if stood_for i then [] else judged i) in
    let first : c.first_of.result.now ≡ take 1000 refused = c.first_of.ensures ∙ ap (λ (rs : List (ℕ × RefusalWord)). take 1000 rs) is in
    let told : AreLinesOf c.args.format (map (finding path) (take 1000 refused)) lines =
    subst (λ (rs : List (ℕ × RefusalWord)). AreLinesOf c.args.format (map (finding path) rs) lines) first c.in_ok-lines.ensures in
    let same : c.airport-airport.result.now ≡ c.args.judged.now.state.airport = c.airport-airport.ensures in
    let also : AreLinesOf c.args.format (fault_at behind_path said) behind =
    subst (λ (b : List ℕ). AreLinesOf c.args.format (fault_at behind_path (scenarios_in c.args.judged.now.state.airport.day b)) behind) c.deref-2.ensures.value
    (subst (λ (rows : AirportRows). AreLinesOf c.args.format (fault_at behind_path (scenarios_in rows.day c.deref-2.result.now)) behind) same
    (subst (λ (p : List ℕ). AreLinesOf c.args.format (fault_at p (scenarios_in c.airport-airport.result.now.day c.deref-2.result.now)) behind) c.scenario_path.ensures c.in_ok-scenario.ensures.lines)) in
    let count : length c.listed-listed.result.now ≡ length refused = ap (λ (rs : List (ℕ × RefusalWord)). length rs) is in
    let Told : List ℕ → Type 0 = λ text. AreLinesOf c.args.format (take 1000 (map (finding path) refused ++ fault_at behind_path said)) text in
    elim c.if-listed-lt-MOST_TOLD.branch [
      | then-listed-lt-MOST_TOLD+in_ok-extend_from_slice w ↦
          let room : length refused < 1000 = omega (arith, count, w.if-listed-lt-MOST_TOLD.true) in
          let longer = ap (λ (v : Vec ℕ Global). v.items) w.lines-is ∙ w.in_ok-extend_from_slice.ensures.items
          ∙ ap (λ (x : List ℕ). lines ++ x) w.deref-then-listed-lt-MOST_TOLD.ensures.value in
          subst Told (sym longer) (with_room c.args.format 1000 path refused (fault_at behind_path said) lines behind room (one_fault behind_path said) told also)
      | else-listed-lt-MOST_TOLD w ↦
          let full : 1000 ≤ length refused = omega (arith, count, w.if-listed-lt-MOST_TOLD.false) in
          let kept = ap (λ (v : Vec ℕ Global). v.items) w.lines-is in
          subst Told (sym kept) (without_room c.args.format 1000 path refused (fault_at behind_path said) lines full told)
    ]

pub returns-clause-refused : goal.returns-clause-refused
returns-clause-refused c =
    let path = c.args.paths.feed.now in
    let behind_path = unwrap_or (option_copied c.args.paths.scenarios) [] in
    let bytes = c.args.inputs.now.second.items in
    let scenarios = c.args.inputs.now.third.items in
    let refused = refusals_in c.args.judged.now.state.airport bytes in
    let said = scenarios_in c.args.judged.now.state.airport.day scenarios in
    let judged : c.deref.result.now ≡ refused = c.deref.ensures.value ∙ c.requires in
    let count : c.len.result ≡ length refused = c.len.ensures ∙ sym c.deref.ensures.len ∙ ap (λ (rs : List (ℕ × RefusalWord)). length rs) judged in
    let same : c.airport-airport.result.now ≡ c.args.judged.now.state.airport = c.airport-airport.ensures in
    let n = c.in_ok-scenario.scenario.refused in
    let also : n ≡ length (fault_at behind_path said) =
    subst (λ (b : List ℕ). n ≡ length (fault_at behind_path (scenarios_in c.args.judged.now.state.airport.day b))) c.deref-2.ensures.value
    (subst (λ (rows : AirportRows). n ≡ length (fault_at behind_path (scenarios_in rows.day c.deref-2.result.now))) same
    (subst (λ (p : List ℕ). n ≡ length (fault_at p (scenarios_in c.airport-airport.result.now.day c.deref-2.result.now))) c.scenario_path.ensures c.in_ok-scenario.ensures.refused)) in
    counted path refused (fault_at behind_path said) c.len.result n count also

pub returns-clause-told : goal.returns-clause-told
returns-clause-told c =
    let path = c.args.paths.feed.now in
    let behind_path = unwrap_or (option_copied c.args.paths.scenarios) [] in
    let bytes = c.args.inputs.now.second.items in
    let scenarios = c.args.inputs.now.third.items in
    let refusals = refusals_in c.args.judged.now.state.airport bytes in
    let refused = listed bytes refusals in
    let said = scenarios_in c.args.judged.now.state.airport.day scenarios in
    let judged : c.deref.result.now ≡ refusals = c.deref.ensures.value ∙ c.requires in
    let stood_for = c.is_some.ensures ∙ c.in_ok-standing.ensures ∙ ap is_no_feed c.deref-feed.ensures.value in
    let is : c.listed-listed.result.now ≡ refused = c.listed-listed.ensures ∙ (λ i. if stood_for i then [] else judged i) in
    let count : length c.listed-listed.result.now ≡ length refused = ap (λ (rs : List (ℕ × RefusalWord)). length rs) is in
    let same : c.airport-airport.result.now ≡ c.args.judged.now.state.airport = c.airport-airport.ensures in
    let n = c.in_ok-scenario.scenario.refused in
    let also : n ≡ length (fault_at behind_path said) =
    subst (λ (b : List ℕ). n ≡ length (fault_at behind_path (scenarios_in c.args.judged.now.state.airport.day b))) c.deref-2.ensures.value
    (subst (λ (rows : AirportRows). n ≡ length (fault_at behind_path (scenarios_in rows.day c.deref-2.result.now))) same
    (subst (λ (p : List ℕ). n ≡ length (fault_at p (scenarios_in c.airport-airport.result.now.day c.deref-2.result.now))) c.scenario_path.ensures c.in_ok-scenario.ensures.refused)) in
    counted path refused (fault_at behind_path said) (length c.listed-listed.result.now) n count also
