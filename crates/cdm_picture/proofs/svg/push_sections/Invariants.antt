use Rattle.std.{proofs.Common.◌≡◌, proofs.Common.◌++◌, proofs.Common.take, specs.Prelude.flat_map, specs.String.string_bytes}
use Rattle.cdm_picture.specs.Svg.{section_text}
use Rattle.cdm_picture.proofs.svg.push_sections.Given as goal

abbrev pub invariant-loop-section : goal.invariant-loop-section
invariant-loop-section l = string_bytes l.text ≡ string_bytes l.initial.text ++ flat_map (section_text l.day) (take l.section-index l.sections)
