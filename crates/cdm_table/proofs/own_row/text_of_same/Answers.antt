use Rattle.std.proofs.Common.{◌∙◌, ◌<◌, length, rules, sym, ap, subst}
use Rattle.cdm_row.proofs.EqualRows.{rows_decide}
use Rattle.cdm_table.specs.inner.OwnRows.{IsOwnRow}
use Rattle.cdm_table.proofs.own_row.text_of_same.Goals as goal

pub returns-then-eq : goal.returns-then-eq
returns-then-eq c = λ form all.
    let first = c.index-rows-0.result in
    let within : 0 < length c.args.rows.now = search rules in
    let made : IsOwnRow form first = subst (IsOwnRow form) (sym c.index-rows-0.is) (all 0 first within) in
    let same = (rows_decide first.row c.args.row.now).0 (sym c.eq.ensures ∙ c.if-eq.true) in
    c.text.ensures ∙ (made ∙ ap form same)
