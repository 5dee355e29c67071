use Rattle.std.proofs.Common.{◌∙◌, sym, ap, subst, arith}
use Rattle.std.{proofs.lemmas.{Option.slice_get_read, Grind.common_steps}, specs.List.filter_map}
use Rattle.cdm_plan.proofs.NameLemmas.{all_taken}
use Rattle.cdm_row.{specs.Rows.KeepsRows, specs.Rows.standing_row, specs.declared.row.Row.Row, proofs.RowLemmas.rows_keep, proofs.RowLemmas.rows_next}
use Rattle.cdm_row.proofs.rows.Rows.of.Goals as goal

pub loop-standing-preserved : goal.loop-standing-preserved
loop-standing-preserved g c = grind (arith, common_steps, rows_next, slice_get_read)

pub invariant_of-result : goal.invariant_of-result
invariant_of-result g c =
    let d = g.R.Records.day c.args.records.now in
    let xs = c.as_slice-standing-items.result.now in
    let made = c.loop-standing.invariant
    ∙ ap (filter_map (standing_row d)) (all_taken xs c.loop-standing.standing-index c.loop-standing-test.false ∙ c.as_slice-standing-items.ensures.items) in
    subst KeepsRows (sym made)
    (rows_keep d c.args.plan.now c.in_ok-standings.standings c.in_ok-standings.ensures.all c.as_slice-standing-items.ensures.keeps)
