use Rattle.std.{proofs.Common.{◌∙◌, ◌++◌, [], ap, sym}, specs.List.cons_option}
use Rattle.cdm_row.specs.declared.row.Row.{Row}
use Rattle.cdm_shift.{specs.Warnings.past, proofs.ListLemmas.given_taken}
use Rattle.cdm_shift.proofs.warnings.push_past.Goals as goal

pub loop-row-preserved : goal.loop-row-preserved
loop-row-preserved g c =
    let d = g.R.Records.day c.args.records.now in
    let so = c.loop-row.found.items in
    given_taken (λ (row : Row). past d c.args.plan.now row row.status) c.args.found.now.items so c.push_if_any.new.found.items c.args.rows.now c.loop-row.row-index
    c.row-item.result c.loop-row-test.true (sym c.row-item.is) c.loop-row.invariant
    (c.in_ok-push_if_any.ensures ∙ ap (λ o. so ++ cons_option o []) c.in_ok-past.ensures)
