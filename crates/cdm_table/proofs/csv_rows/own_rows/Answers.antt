use Rattle.cdm_table.proofs.Words.{◌∙◌, ◌++◌, List, ℕ, [], length, refl, sym, ap, slice_get_read, default_writer, row_text}
use Rattle.cdm_table.{proofs.OwnLemmas.rows_next, specs.Rows.flight_row}
use Rattle.cdm_table.proofs.csv_rows.own_rows.Goals as goal

pub loop-row-preserved : goal.loop-row-preserved
loop-row-preserved c =
    let day = c.args.day in
    let xs = c.as_slice-row-items.result.now in
    let k = c.loop-row.row-index in
    let item = c.row-item.result in
    let next = rows_next (flight_row day []) xs k item (slice_get_read xs (length xs) k item refl c.loop-row-test.true c.row-item.is) in
    record {
      made = c.in_ok-push_own.ensures.made;
      text = c.in_ok-push_own.ensures.text ∙ (ap (λ (l : List ℕ). l ++ row_text default_writer (flight_row day [] item)) c.loop-row.invariant.text ∙ sym next);
    }
