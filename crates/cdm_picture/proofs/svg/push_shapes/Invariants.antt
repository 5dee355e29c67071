use Rattle.std.{proofs.Common.◌≡◌, proofs.Common.◌++◌, proofs.Common.take, specs.Prelude.flat_map, specs.String.string_bytes}
use Rattle.cdm_picture.specs.Svg.{shape_text}
use Rattle.cdm_picture.proofs.svg.push_shapes.Given as goal

abbrev pub invariant-loop-shape : goal.invariant-loop-shape
invariant-loop-shape l = string_bytes l.text ≡ string_bytes l.initial.text ++ flat_map shape_text (take l.shape-index l.shapes)
