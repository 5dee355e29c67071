use Rattle.cdm_table.proofs.Words.{arith, rules, ◌≡◌, ◌∙◌, ◌++◌, ◌+◌, [], ◌∷◌, Some, length, refl, sym, ap, slice_get-get_or}
use Rattle.cdm_table.{proofs.Words.slice_get_read, proofs.LineLemmas.{line_at, one_more_line}, specs.Comparison.lines_from}
use Rattle.cdm_table.specs.declared.line.Line.{Line}
use Rattle.cdm_table.proofs.comparing.lines_of.Goals as goal

pub loop-place-init : goal.loop-place-init
unfolding lines_from
loop-place-init c = search rules

pub loop-place-preserved : goal.loop-place-preserved
loop-place-preserved c =
    let ss = c.args.tries.now in
    let xs = c.args.summaries.now in
    let k = c.loop-place.place in
    let s = c.index-tries-place.result in
    let x = c.summary_line-line.result.summary in
    let at = slice_get_read ss (length ss) k s refl c.loop-place-test.true c.index-tries-place.is in
    let own = ap (λ (l : Line). l.summary) c.summary_line-line.ensures in
    let also = slice_get-get_or xs k _ (omega (arith, c.requires, c.loop-place-test.true)) ∙ ap Some (sym own) in
    let next = one_more_line c.args.counts ss xs k s x c.requires c.loop-place-test.true at also in
    let line : c.summary_line-line.result ≡ line_at (k + 1) s x = c.summary_line-line.ensures ∙ sym (ap (line_at (k + 1) s) own) in
    c.in_ok-push_last-2.ensures ∙ ((λ i. c.loop-place.invariant i ++ line i ∷ []) ∙ sym next)
