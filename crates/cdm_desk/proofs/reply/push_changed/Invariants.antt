use Rattle.std.{proofs.Common.{◌≡◌, ◌++◌, take}, specs.Prelude.flat_map, specs.String.string_bytes}
use Rattle.cdm_desk.specs.Replies.{changed_line}
use Rattle.cdm_desk.proofs.reply.push_changed.Given as goal

abbrev pub invariant-loop-standing : goal.invariant-loop-standing
invariant-loop-standing l = string_bytes l.text ≡ string_bytes l.initial.text ++ flat_map (changed_line l.day) (take l.standing-index l.changed)
