use Rattle.std.proofs.Common.{◌≡◌, ◌∙◌, ◌++◌, List, ℕ, sym, ap, append_assoc}
use Rattle.cdm_table.{specs.inner.OwnRows.csv_row, proofs.OwnLemmas.named_flight}
use Rattle.cdm_table.proofs.csv_rows.push_flight.Goals as goal

pub returns-in-Some : goal.returns-in-Some
returns-in-Some c =
    let day = c.args.sheet.now.day in
    let name = c.args.sheet.now.scenario.now in
    let row = c.args.row.now in
    let before = c.args.text.now.items in
    let text : c.in-Some.own.now ≡ csv_row day row = rw c.in-Some.is at c.requires in
    let first : c.extend_from_slice.new.self.items ≡ before ++ name =
    c.in_ok-extend_from_slice.ensures.items ∙ ap (λ (l : List ℕ). before ++ l) c.bytes.ensures.value in
    let second = c.in_ok-extend_from_slice-2.ensures.items ∙ (λ i. first i ++ text i) in
    second ∙ (append_assoc before name _ ∙ ap (λ (l : List ℕ). before ++ l) (sym (named_flight day name row c.bytes.ensures.name)))
