use Rattle.cdm_table.proofs.Words.{◌∙◌, ◌++◌, List, ℕ, length, refl, sym, ap, slice_get_read, default_writer, row_text}
use Rattle.cdm_table.{proofs.OwnLemmas.rows_next, specs.Rows.flight_row, specs.inner.OwnRows.csv_row}
use Rattle.cdm_table.proofs.csv_rows.flight_rows.Goals as goal

pub push_flight-requires : goal.push_flight-requires
push_flight-requires c =
    let form = csv_row c.args.sheet.now.day in
    c.text_of_same.ensures form (c.from_flight-left.ensures form c.loop-row.invariant.left)

pub loop-row-preserved : goal.loop-row-preserved
loop-row-preserved c =
    let day = c.args.sheet.now.day in
    let name = c.args.sheet.now.scenario.now in
    let xs = c.as_slice-row-items.result.now in
    let k = c.loop-row.row-index in
    let item = c.row-item.result in
    let next = rows_next (flight_row day name) xs k item (slice_get_read xs (length xs) k item refl c.loop-row-test.true c.row-item.is) in
    record {
      text = c.in_ok-push_flight.ensures ∙ (ap (λ (l : List ℕ). l ++ row_text default_writer (flight_row day name item)) c.loop-row.invariant.text ∙ sym next);
      left = c.from_flight-left.ensures (csv_row day) c.loop-row.invariant.left;
    }
