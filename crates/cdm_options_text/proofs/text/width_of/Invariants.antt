use Rattle.std.{proofs.Common.{◌≡◌, take}, specs.Prelude.fold}
use Rattle.cdm_options_text.specs.Lines.{width_with}
use Rattle.cdm_options_text.proofs.text.width_of.Given as goal

abbrev pub invariant-loop-help : goal.invariant-loop-help
invariant-loop-help l = l.width ≡ fold (width_with l.day) 6 (take l.help-index l.helping)
