use Rattle.std.{proofs.Common.{◌≡◌, ◌++◌, take}, specs.Prelude.flat_map}
use Rattle.cdm_options_text.specs.Lines.{help_line}
use Rattle.cdm_options_text.proofs.text.push_helping.Given as goal

abbrev pub invariant-loop-help : goal.invariant-loop-help
invariant-loop-help l =
    l.text.items ≡ l.initial.text.items ++ flat_map (help_line l.day l.width l.options.before l.options.counts) (take l.help-index l.helping)
