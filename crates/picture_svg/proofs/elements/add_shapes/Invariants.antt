use Rattle.std.proofs.Common.{◌≡◌, ◌++◌, drop}
use Rattle.std.specs.List.{flat_map}
use Rattle.picture_svg.specs.Shapes.{shape_text}
use Rattle.picture_svg.proofs.elements.add_shapes.Given as goal

abbrev pub invariant-loop-shape : goal.invariant-loop-shape
invariant-loop-shape l = l.fn.text ++ flat_map shape_text l.shapes ≡ l.text ++ flat_map shape_text (drop l.shape-index l.shapes)
