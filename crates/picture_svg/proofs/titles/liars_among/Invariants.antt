use Rattle.std.proofs.Common.{◌≡◌, ◌++◌, drop}
use Rattle.picture_svg.specs.Titles.{liars_among}
use Rattle.picture_svg.proofs.titles.liars_among.Given as goal

abbrev pub invariant-loop-lifeline : goal.invariant-loop-lifeline
invariant-loop-lifeline l = liars_among l.lifelines ≡ l.liars.items ++ liars_among (drop l.lifeline-index l.lifelines)
