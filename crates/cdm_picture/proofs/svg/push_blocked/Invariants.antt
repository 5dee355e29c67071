use Rattle.std.{proofs.Common.◌≡◌, proofs.Common.◌++◌, proofs.Common.take, specs.Prelude.flat_map, specs.String.string_bytes}
use Rattle.cdm_picture.specs.Svg.{blocked_text}
use Rattle.cdm_picture.proofs.svg.push_blocked.Given as goal

abbrev pub invariant-loop-mark : goal.invariant-loop-mark
invariant-loop-mark l = string_bytes l.text ≡ string_bytes l.initial.text ++ flat_map blocked_text (take l.mark-index l.blocked)
