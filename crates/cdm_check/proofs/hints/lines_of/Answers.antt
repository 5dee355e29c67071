use Rattle.std.proofs.Common.{◌≡◌, ◌∙◌, ◌++◌, ℕ, List, sym, ap, subst}
use Rattle.cdm_check.{specs.Check.AreHintsOf, proofs.LineLemmas.next_hint}
use Rattle.cdm_check.proofs.hints.lines_of.Goals as goal

pub loop-hint-preserved : goal.loop-hint-preserved
loop-hint-preserved c =
    let path = c.args.path.now in
    let before = c.loop-hint.text.items in
    let line = c.in_ok-line.line.items in
    let longer : c.extend_from_slice.new.self.items ≡ before ++ line =
    c.in_ok-extend_from_slice.ensures.items ∙ ap (λ (x : List ℕ). before ++ x) c.deref-in-loop-hint.ensures.value in
    subst (AreHintsOf c.args.format path) (sym longer) (next_hint c.args.format path before line c.loop-hint.invariant c.in_ok-line.ensures)
