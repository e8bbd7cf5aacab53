use Rattle.std.proofs.Common.{◌≡◌, ◌++◌, drop}
use Rattle.std.specs.List.{flat_map}
use Rattle.picture_svg.specs.Documents.{marker_text}
use Rattle.picture_svg.proofs.elements.add_markers.Given as goal

abbrev pub invariant-loop-marker : goal.invariant-loop-marker
invariant-loop-marker l = l.fn.text ++ flat_map marker_text l.markers ≡ l.text ++ flat_map marker_text (drop l.marker-index l.markers)
