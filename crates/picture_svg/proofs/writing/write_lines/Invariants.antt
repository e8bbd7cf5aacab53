use Rattle.std.proofs.Common.{◌≡◌, ◌++◌, map, drop}
use Rattle.picture_svg.specs.Texts.{say}
use Rattle.picture_svg.proofs.writing.write_lines.Given as goal

abbrev pub invariant-loop-line : goal.invariant-loop-line
invariant-loop-line l = l.fn.texts ++ map (say l.class) l.lines ≡ l.texts ++ map (say l.class) (drop l.line-index l.lines)
