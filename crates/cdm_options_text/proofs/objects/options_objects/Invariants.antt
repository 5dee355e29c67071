use Rattle.std.{proofs.Common.{◌≡◌, ◌++◌, take}, specs.Prelude.flat_map}
use Rattle.cdm_options_text.specs.Objects.{flight_members, help_members, object_line}
use Rattle.cdm_options_text.proofs.objects.options_objects.Given as goal

abbrev pub invariant-loop-help : goal.invariant-loop-help
invariant-loop-help l =
    l.text.items ≡ object_line l.day (flight_members l.options) ++ flat_map (λ h. object_line l.day (help_members l.day l.options.before h)) (take l.help-index l.helping)
