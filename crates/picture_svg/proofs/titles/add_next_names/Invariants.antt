use Rattle.std.proofs.Common.{◌≡◌, ◌++◌, drop}
use Rattle.std.specs.List.{flat_map}
use Rattle.picture_svg.specs.Titles.{next_name}
use Rattle.picture_svg.proofs.titles.add_next_names.Given as goal

abbrev pub invariant-loop-actor : goal.invariant-loop-actor
invariant-loop-actor l = l.fn.text ++ flat_map next_name l.actors ≡ l.text ++ flat_map next_name (drop l.actor-index l.actors)
