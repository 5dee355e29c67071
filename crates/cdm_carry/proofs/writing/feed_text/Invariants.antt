use Rattle.std.{proofs.Common.{◌≡◌, take}, specs.String.string_bytes}
use Rattle.cdm_carry.specs.Texts.{feed_text}
use Rattle.cdm_carry.proofs.writing.feed_text.Given as goal

abbrev pub invariant-loop-item : goal.invariant-loop-item
invariant-loop-item l = string_bytes l.text ≡ feed_text l.day (take l.item-index l.records)
