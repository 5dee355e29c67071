use Rattle.std.{proofs.Common.{take, flat_map}, specs.Fmt.{HasWritten, IsPlainFormatter}}
use Rattle.cdm_port.specs.Torn.{byte_told}
use Rattle.cdm_port.proofs.torn.TornTextDisplay.fmt.Given as goal

abbrev pub invariant-loop-byte : goal.invariant-loop-byte
invariant-loop-byte g l =
    IsPlainFormatter l.initial.f → HasWritten g.W.Write.write_str_gives l.initial.f (flat_map byte_told (take l.byte-index l.byte-items)) l.f
