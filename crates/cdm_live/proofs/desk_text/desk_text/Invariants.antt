use Rattle.std.proofs.Common.{◌≡◌, ◌++◌, flat_map, length, take}
use Rattle.cdm_report.specs.Report.{refused_line}
use Rattle.cdm_live.specs.Live.{desk_line}
use Rattle.cdm_live.proofs.desk_text.desk_text.Given as goal

abbrev pub invariant-loop-refusal : goal.invariant-loop-refusal
invariant-loop-refusal l =
    l.text.items ≡ desk_line l.desk l.posts (length l.refused) ++ flat_map refused_line (take l.refusal-index l.refused)
