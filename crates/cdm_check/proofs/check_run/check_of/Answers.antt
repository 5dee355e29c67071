use Rattle.std.{proofs.Common.{◌∙◌, ◌∷◌, [], ℕ, Bool, List, length, is_some, subst}, specs.List.concat}
use Rattle.cdm_files.specs.Records.{records_of}
use Rattle.cdm_check.specs.Check.{AreFeedHintsOf, last_line}
use Rattle.cdm_check.proofs.check_run.check_of.Goals as goal

pub returns-clause-text : goal.returns-clause-text
returns-clause-text g c =
    let path = c.args.paths.feed.now in
    let bytes = c.args.inputs.now.second.items in
    let found = c.in_ok-found.found.lines.items in
    let airport = c.in_ok-airport.airport.items in
    let feed = c.in_ok-feed.feed.items in
    let scenarios = c.in_ok-scenarios.scenarios.items in
    let of_feed = subst (λ (stood_for : Bool). AreFeedHintsOf c.args.format stood_for path (length (records_of bytes)) feed) (c.as_deref-standing.ensures.variant ∙ c.in_ok-found.ensures.standing)
    (subst (λ (text : List ℕ). AreFeedHintsOf c.args.format (is_some c.as_deref-standing.result) path (length (records_of text)) feed) c.deref-2.ensures.value c.in_ok-feed.ensures) in
    let told = c.in_ok-last.ensures ∙ (λ i. last_line c.args.format (c.in_ok-records.ensures i) (c.in_ok-found.ensures.refused i) (c.in_ok-found.ensures.told i)) in
    record {
      hints_airport = airport;
      of_airport = c.in_ok-airport.ensures;
      hints_feed = feed;
      of_feed = of_feed;
      hints_scenarios = scenarios;
      of_scenarios = c.in_ok-scenarios.ensures;
      found = found;
      of_findings = c.in_ok-found.ensures.lines;
      bytes = c.in_ok-text.ensures ∙ (λ i. concat (airport ∷ c.deref-6.ensures.value i ∷ c.deref-7.ensures.value i ∷ c.deref-8.ensures.value i ∷ (c.deref-9.ensures.value ∙ told) i ∷ []));
    }
