use Rattle.std.proofs.{Common.{◌∙◌, length, ap}, lemmas.Slice.Zip.AllZip-long}
use Rattle.cdm_table.specs.Comparison.{IsTried}
use Rattle.cdm_table.proofs.ranking.ranked_lines.Goals as goal

pub lines_of-requires : goal.lines_of-requires
lines_of-requires g c =
    ap length c.deref.ensures.value
    ∙ AllZip-long (IsTried c.args.base.now) c.args.tries.now c.in_ok-summaries.summaries.items c.in_ok-summaries.ensures
