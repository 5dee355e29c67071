use Rattle.cdm_files.{proofs.Words.{refl, err_from_is_err_and}, specs.inner.Several.all_four}
use Rattle.cdm_files.proofs.field.all_four.Goals as goal

pub returns-in_err-one : goal.returns-in_err-one
unfolding all_four
returns-in_err-one g c =
    let p = err_from_is_err_and c.from_residual.result c.from_residual.ensures.1 in
    rw (p.1, p.2, ← c.both.ensures, ← c.both-2.ensures, ← c.in_err-one.ensures) refl
