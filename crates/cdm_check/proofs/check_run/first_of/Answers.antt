use Rattle.std.proofs.{Common.{◌≤◌, length, length-take-le, sym, arith}, lemmas.List.take_all}
use Rattle.cdm_check.proofs.check_run.first_of.Goals as goal

pub slice_bounds-result-end : goal.slice_bounds-result-end
slice_bounds-result-end c =
    let many : 1000 ≤ length c.args.refused.now = omega arith in
    sym (length-take-le 1000 c.args.refused.now many)

pub returns-else-refused-gt-MOST_TOLD : goal.returns-else-refused-gt-MOST_TOLD
returns-else-refused-gt-MOST_TOLD c = sym (take_all 1000 c.args.refused.now (omega arith))
