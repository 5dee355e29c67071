use Rattle.cdm_json.proofs.Words.{◌≡◌, ◌∙◌, ◌++◌, ℕ, List, [], ◌∷◌, Option, Some, subst, sym, codes, flat_map, IsSomeAnd, option_copied}
use Rattle.cdm_json.proofs.Words.{Json, string, time_text, flight_of, Flight, row_named, member_tokens}
use Rattle.cdm_json.{proofs.TokenLemmas.{line_written, more_parts, one_member}, specs.Lines.head_members}
use Rattle.cdm_json.specs.Whys.{IsWhyLine, known_members, waits_members, why_members}
use Rattle.cdm_json.proofs.why.why_line.Goals as goal

pub returns-clause-text : goal.returns-clause-text
unfolding why_members
returns-clause-text g c =
    let d = g.R.Records.day c.args.records.now in
    let day = d.airport.day in
    let f = c.in-Some.flight.now in
    let plan = c.args.plan.now in
    let rows = c.in_ok-rows.rows in
    let runs = c.in_ok-runs.runs.items in
    let row = row_named rows f.name in
    let number = c.args.number in
    let head = head_members number (codes "WHY") in
    let now : List ℕ × Json = (codes "now", string (time_text day plan.clock)) in
    let clock : c.plan.inside.clock ≡ plan.clock = cc in
    let name : c.flight-2.inside.name ≡ f.name = cc in
    let begun = c.in_ok-writer.writer.tokens in
    let same : option_copied c.row_named.result ≡ row = c.row_named.ensures ∙ (λ i. row_named (c.as_slice.ensures.items i) (name i)) in
    let first = c.in_ok-push_known.ensures.tokens ∙ (λ i. begun ++ flat_map member_tokens (known_members (c.requires.day i) f (same i))) in
    let second = c.in_ok-push_minute.ensures.tokens
    ∙ (λ i. c.push_known.new.writer.tokens ++ member_tokens (codes "now", string (time_text (c.requires.day i) (clock i)))) in
    let third = c.in_ok-push_waits.ensures.tokens
    ∙ (λ i. c.push_minute.new.writer.tokens ++ flat_map member_tokens (waits_members (c.requires.day i) (c.deref.ensures.value i))) in
    let some = more_parts begun _ _ (known_members day f row) (now ∷ []) first (one_member _ _ now second) in
    let all = more_parts begun _ _ (known_members day f row ++ now ∷ []) (waits_members day runs) some third in
    let members = why_members day plan f row runs in
    let line = c.in_ok-end_line.ensures.line (head ++ members) (line_written begun _ head members c.in_ok-writer.ensures.tokens all) in
    let known : flight_of d.airport d.journal c.args.name ≡ Some f = sym c.in-Some.ensures.value in
    let told : IsWhyLine d number plan f c.in_ok-end_line.field-0.items = record {
      rows = rows;
      are_rows = c.in_ok-rows.ensures.all;
      runs = runs;
      waits = c.in_ok-runs.ensures;
      bytes = line;
    } in
    subst (λ (o : Option Flight). IsSomeAnd o (λ f. IsWhyLine d number plan f c.in_ok-end_line.field-0.items)) (sym known) told
