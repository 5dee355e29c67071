use Rattle.std.{proofs.Common.{◌≡◌, ◌++◌, take}, specs.Prelude.flat_map, specs.String.string_bytes}
use Rattle.cdm_shift.specs.Lines.{group_line}
use Rattle.cdm_shift.proofs.text.causes_text.Given as goal

abbrev pub invariant-loop-group : goal.invariant-loop-group
invariant-loop-group g l =
    string_bytes l.text ≡ string_bytes l.initial.text
    ++ flat_map (group_line (g.R.Records.day l.records) l.plan l.by l.standing.items) (take l.group-index l.group-items)
