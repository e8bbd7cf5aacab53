use Rattle.std.proofs.Common.{take}
use Rattle.std.specs.List.{flat_map}
use Rattle.std.specs.Io.KnownBytes.{Appends}
use Rattle.store_words.specs.Lines.{scrub_line}
use Rattle.store_words.proofs.lines.write_scrubbed.Given as goal

abbrev pub invariant-loop-line : goal.invariant-loop-line
invariant-loop-line g l = Appends (g.W.Write.contents l.fn.to) (g.W.Write.contents l.to) (flat_map scrub_line (take l.line-index l.fn.lines))
