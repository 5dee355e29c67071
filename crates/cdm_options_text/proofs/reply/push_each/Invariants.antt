use Rattle.std.{proofs.Common.{◌≡◌, ◌++◌, map, take}, specs.Prelude.flat_map}
use Rattle.json.specs.Tree.{json_tokens}
use Rattle.cdm_options_text.specs.Objects.{help_object}
use Rattle.cdm_options_text.proofs.reply.push_each.Given as goal

abbrev pub invariant-loop-help : goal.invariant-loop-help
invariant-loop-help l = record {
  tokens : l.writer.tokens ≡ l.initial.writer.tokens ++ flat_map json_tokens (map (help_object l.day l.options.before) (take l.help-index l.helping));
  before : l.writer.before ≡ l.initial.writer.before;
}
