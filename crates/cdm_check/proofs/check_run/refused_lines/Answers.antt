use Rattle.std.proofs.Common.{◌≡◌, ◌∙◌, ◌+◌, ◌++◌, ℕ, List, map, take, sym, ap, subst}
use Rattle.cdm_flight.specs.declared.word.RefusalWord.TheVariants.{Fields}
use Rattle.cdm_check.{specs.Check.AreLinesOf, specs.Findings.finding, proofs.LineLemmas.next_line}
use Rattle.cdm_check.proofs.check_run.refused_lines.Goals as goal

pub loop-refusal-preserved : goal.loop-refusal-preserved
loop-refusal-preserved c =
    let path = c.args.path.now in
    let refused = c.args.refused.now in
    let i = c.loop-refusal.refusal-index in
    let before = c.loop-refusal.text.items in
    let line = c.in_ok-line.line.items in
    let longer : c.extend_from_slice.new.self.items ≡ before ++ line =
    c.in_ok-extend_from_slice.ensures.items ∙ ap (λ (x : List ℕ). before ++ x) c.deref.ensures.value in
    subst (λ (x : List ℕ). AreLinesOf c.args.format (map (finding path) (take (i + 1) refused)) x) (sym longer)
    (next_line c.args.format path refused i (0, Fields) before line c.loop-refusal-test.true c.loop-refusal.invariant c.in_ok-line.ensures)
